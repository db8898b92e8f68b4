-- A contract that is wanted and passed over is excused.
use Rattle.std.proofs.Common.{◌≡◌, ℕ, ◌+◌, ◌<◌, true, false, not, List, length, eqb, pos, ◌-ℤ◌, ◌<ℤ◌, sym, ap, ◌∙◌, subst, ⊎_elim, arith, eq-eqb, ne_eqb}
use Rattle.std.proofs.lemmas.Bool.{and_parts, not-true}
use Rattle.std.proofs.lemmas.List.Sums.{length-filter}
use Rattle.rm_sets.specs.Sets.{has, IsIn}
use Rattle.rm_sets.proofs.Sets.{not_both}
use Rattle.rm_valuation_laws.proofs.Counts.{one}
use Rattle.rm_market.specs.Board.{contract_count, doctor_of, hospital_of}
use Rattle.rm_market.specs.Best.{swapped}
use Rattle.rm_market.specs.Stable.{IsPlacement, wants, prefers, owner, at}
use Rattle.rm_market.specs.Market.{Market, IsMarket, wishes_of}
use Rattle.rm_market.specs.Flexible.{Region, is_passed_over}
use Rattle.rm_plain_laws.specs.Stability.{held, IsBlockingPair}
use Rattle.rm_market_laws.proofs.Wishes.{are_wishes}
use Rattle.rm_flexible_laws.specs.Region.{seat_at, region_at, IsRegions, IsPlace}
use Rattle.rm_flexible_laws.proofs.ByCounts.{count_at, IsFull}
use Rattle.rm_flexible_laws.proofs.Counts.{passing_positive}
use Rattle.rm_flexible_laws.proofs.Best.{passing-swapped}
use Rattle.rm_flexible_laws.proofs.CountForm.{passed_says}
use Rattle.rm_flexible_laws.proofs.Pick.{one_place}
use Rattle.rm_kamada_kojima_laws.specs.Stability.{KeepsCaps, IsExcused, IsKKStable}
use Rattle.rm_kamada_kojima_laws.proofs.Pairs.{one_contract}
use Rattle.rm_kamada_kojima_laws.proofs.Turns.{turns_further, further_over}

-- what is wanted isn't held
pub wanted_out : (m : Market) (S : List ℕ) (x : ℕ) → wants (wishes_of m) S x ≡ true → has x S ≡ false
wanted_out m S x wanted =
    let w = wishes_of m in
    not-true (has x S) (and_parts (not (has x S)) (prefers w (owner w x) x (at w (owner w x) S)) wanted).0

module _ (m : Market) (regions : List Region) (market : IsMarket m) (lawful : IsRegions (contract_count m.board) (hospital_of m.board) regions) (S : List ℕ) (placement : IsPlacement (wishes_of m) S) where
  below : (y : ℕ) → IsIn y S → y < contract_count m.board
  below y iy = subst (λ n. y < n) (are_wishes m market).contracts (placement.set.below y iy)

  -- the counts after the doctor of x moves there from another hospital of the region
  moved_further : (r : Region) (x y j k : ℕ) → x < contract_count m.board → has x S ≡ false → j < length r.seats → (seat_at r j).hospital ≡ hospital_of m.board x → IsFull (hospital_of m.board) r S j →
      IsIn y S → doctor_of m.board y ≡ doctor_of m.board x → k < length r.seats → (seat_at r k).hospital ≡ hospital_of m.board y →
      (pos (count_at (hospital_of m.board) (seat_at r k) (swapped S x y)) -ℤ pos (seat_at r k).target) <ℤ (pos (count_at (hospital_of m.board) (seat_at r j) (swapped S x y)) -ℤ pos (seat_at r j).target)
  moved_further r x y j k lx out jm hj full iy same km hk =
      let f = hospital_of m.board in
      let hq = (seat_at r k).hospital in
      let hs = (seat_at r j).hospital in
      let apart : f y ≡ f x → ⊥ = λ e. not_both (has x S) (subst (λ z. IsIn z S) (one_contract (length m.lists) m.board market.board y x (below y iy) lx same e) iy) out in
      let at_left = passing-swapped (λ z. eqb (f z) hq) S y x placement.set.ascending iy out in
      let at_new = passing-swapped (λ z. eqb (f z) hs) S y x placement.set.ascending iy out in
      let a1 : one (eqb (f y) hq) ≡ 1 = ap one (eq-eqb (f y) hq (sym hk)) in
      let a0 : one (eqb (f x) hq) ≡ 0 = ap one (ne_eqb (f x) hq (λ e. apart (sym (e ∙ hk)))) in
      let n1 : one (eqb (f x) hs) ≡ 1 = ap one (eq-eqb (f x) hs (sym hj)) in
      let n0 : one (eqb (f y) hs) ≡ 0 = ap one (ne_eqb (f y) hs (λ e. apart (e ∙ hj))) in
      let some : 0 < count_at f (seat_at r k) S = passing_positive (λ z. eqb (f z) hq) S y iy (eq-eqb (f y) hq (sym hk)) in
      let later = full.later k km some in
      let le = turns_further (length r.seats) j k (seat_at r j).target (seat_at r k).target (count_at f (seat_at r j) S) (count_at f (seat_at r k) S) jm later in
      let new : count_at f (seat_at r j) (swapped S x y) ≡ count_at f (seat_at r j) S + 1 = omega arith in
      subst (λ n. (pos (count_at f (seat_at r k) (swapped S x y)) -ℤ pos (seat_at r k).target) <ℤ (pos n -ℤ pos (seat_at r j).target)) (sym new)
      (further_over (count_at f (seat_at r k) (swapped S x y)) (count_at f (seat_at r j) S) (count_at f (seat_at r k) S) (seat_at r j).target (seat_at r k).target (omega arith) le)

  excused : (x i j : ℕ) → x < contract_count m.board → IsPlace regions (hospital_of m.board x) i j → is_passed_over m.board regions S x ≡ true →
      IsBlockingPair m S (seat_at (region_at regions i) j).capacity x → IsExcused m S (region_at regions i) (seat_at (region_at regions i) j) x
  excused x i j lx p passed blocks =
      let b = m.board in
      let r = region_at regions i in
      let over = passed_says b regions (one_place (contract_count b) (hospital_of b) regions lawful) S x i j p passed in
      let same : count_at (hospital_of b) (seat_at r j) S ≡ held b S (hospital_of b x) =
      length-filter (λ z. eqb (hospital_of b z) (seat_at r j).hospital) S ∙ ap (held b S) p.hospital in
      let room : count_at (hospital_of b) (seat_at r j) S < (seat_at r j).capacity =
      ⊎_elim (λ free. omega arith) (λ worse. let lt = over.above worse.0 worse.1 worse.2 in let gt : x < worse.0 = worse.3 in absurd (omega arith)) blocks.welcome in
      let full : IsFull (hospital_of b) r S j = ⊎_elim (λ none. absurd (omega arith)) (λ f. f) over.no_seat in
      record {
        full = full.full;
        above = over.above;
        further = λ y k iy same km hk. moved_further r x y j k lx (wanted_out m S x blocks.wanted) p.seat p.hospital full iy same km hk;
      }

  -- a placement within the caps is stable as they say if each contract that is wanted is passed over
  pub kk_stable : KeepsCaps m.board regions S → ((x : ℕ) → x < contract_count m.board → wants (wishes_of m) S x ≡ true → is_passed_over m.board regions S x ≡ true) → IsKKStable m regions S
  kk_stable caps passed = record {
    placement = placement;
    caps = caps;
    excused = λ x i j lx p blocks. excused x i j lx p (passed x lx blocks.wanted) blocks;
  }
