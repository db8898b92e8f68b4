-- What regions keep has the laws of a choice, on any board.
use Rattle.std.proofs.Common.{◌≡◌, ℕ, zero, suc, ◌+◌, ◌<◌, ◌≤◌, Bool, true, false, List, [], ◌∷◌, length, get_or, eqb, filter, count_by, sym, ap, ◌∙◌, ⊎_elim, arith, eq-eqb, eqb-true}
use Rattle.std.specs.Prelude.{sum_by}
use Rattle.std.specs.List.{list_any}
use Rattle.std.proofs.Math.Path.{fun_ext}
use Rattle.std.proofs.lemmas.Bool.{cases_lt}
use Rattle.std.proofs.lemmas.List.Sums.{sum_by-cons, length-filter}
use Rattle.rm_sets.specs.Sets.{has, IsIn, IsSet, IsSetBelow, IsWithin}
use Rattle.rm_sets.proofs.Sets.{not_both, cases_has, IsSet-filter}
use Rattle.rm_sets.proofs.Members.{IsIn-filter, IsIn-from_filter, within-filter, not_in_from}
use Rattle.rm_sets.proofs.Sizes.{length_less, same_from_length}
use Rattle.rm_valuation_laws.proofs.Counts.{count_or, count_none}
use Rattle.rm_market.specs.Board.{Board, hospital_of}
use Rattle.rm_market.specs.Best.{IsChoice}
use Rattle.rm_market.specs.Flexible.{Region, flexible}
use Rattle.rm_flexible_laws.specs.Region.{no_seat, seat_at, no_region, region_at, IsRegions, IsPlace}
use Rattle.rm_flexible_laws.proofs.ByCounts.{count_at, count_in, is_of, IsFull, IsPickedBy}
use Rattle.rm_flexible_laws.proofs.Keys.{turn_rises}
use Rattle.rm_flexible_laws.proofs.Tests.{any_at, at_any, some_more, some_less}
use Rattle.rm_flexible_laws.proofs.Counts.{count_in-sum, passing_more, filter_all}
use Rattle.rm_flexible_laws.proofs.Pick.{region_ok, of_place, one_region, flexible_picked}

-- a sum over tests of which no two pass together
pub counts_apart : {A : Type 0} (p : A → ℕ → Bool) (d : A) (L : List A) (S : List ℕ) →
    ((i j x : ℕ) → i < j → j < length L → p (get_or L i d) x ≡ true → p (get_or L j d) x ≡ true → ⊥) →
    count_by (λ x. list_any (λ a. p a x) L) S ≡ sum_by (λ a. count_by (p a) S) L
counts_apart p d [] S apart = count_none S
counts_apart p d (a ∷ L) S apart =
    let e = count_or (p a) (λ x. list_any (λ b. p b x) L) S
    (λ x h k. let r = at_any (λ b. p b x) L d k in apart zero (suc r.0) x (omega arith) (omega arith) h r.2) in
    let rest = counts_apart p d L S (λ i j x lt le. apart (suc i) (suc j) x (omega arith) (omega arith)) in
    let c = sum_by-cons (λ b. count_by (p b) S) a L in
    omega arith

module _ (n : ℕ) (f : ℕ → ℕ) (regions : List Region) (ok : IsRegions n f regions) where
  -- a set is counted region by region
  pub length-sum : (S : List ℕ) → IsSetBelow n S → length S ≡ sum_by (λ r. count_in f r S) regions
  length-sum S s =
      let whole : filter (λ x. list_any (λ r. is_of f r x) regions) S ≡ S =
      filter_all (λ x. list_any (λ r. is_of f r x) regions) S s.ascending (λ x h.
      let t = ok.all x (s.below x h) in any_at (λ r. is_of f r x) regions no_region t.0 t.2.region (of_place n f regions ok x t.0 t.1 t.2)) in
      sym (ap length whole)
      ∙ (length-filter (λ x. list_any (λ r. is_of f r x) regions) S
      ∙ (counts_apart (is_of f) no_region regions S
      (λ i j x lt lj hi hj. let e = one_region n f regions ok x i j (omega arith) lj hi hj in absurd (omega arith))
      ∙ ap (λ g. sum_by g regions) (fun_ext (λ r. sym (length-filter (is_of f r) S)))))

  module _ (X Y S T : List ℕ) (sX : IsSet X) (sY : IsSetBelow n Y) (w : IsWithin X Y) (pS : IsPickedBy f regions X S) (pT : IsPickedBy f regions Y T) where
    -- where T has fewer at a seat, the region is full
    fewer_full : (i j : ℕ) → i < length regions → j < length (region_at regions i).seats → count_at f (seat_at (region_at regions i) j) T < count_at f (seat_at (region_at regions i) j) S →
        IsFull f (region_at regions i) T j
    fewer_full i j li lj lt =
        let r = region_at regions i in
        let m = passing_more (λ x. eqb (f x) (seat_at r j).hospital) T S pT.set pS.set lt in
        let at : (seat_at r j).hospital ≡ f m.0 = sym (eqb-true (f m.0) (seat_at r j).hospital m.3) in
        let passed = pT.passed m.0 i j (w m.0 (pS.within m.0 m.1)) m.2 (record { region = li; seat = lj; hospital = at }) in
        ⊎_elim
        (λ c. let cap = pS.caps.at_seat i j li lj in absurd (omega arith))
        (λ d. d)
        passed.no_seat

    -- what isn't kept of less isn't kept of more
    refused_of_more : (x : ℕ) → IsIn x X → IsIn x T → has x S ≡ false → ⊥
    refused_of_more x ix iT out =
        let t = ok.all x (sY.below x (w x ix)) in
        let i = t.0 in
        let j = t.1 in
        let p : IsPlace regions (f x) i j = t.2 in
        let r = region_at regions i in
        let at = λ (y : ℕ). eqb (f y) (seat_at r j).hospital in
        let passed = pS.passed x i j ix out p in
        let less : count_at f (seat_at r j) S < count_at f (seat_at r j) T =
        length_less (filter at S) (filter at T) x (IsSet-filter at S pS.set) (IsSet-filter at T pT.set)
        (λ y h.
        let a = IsIn-from_filter at S y h in
        let same : f y ≡ f x = eqb-true (f y) (seat_at r j).hospital a.1 ∙ p.hospital in
        let lt = passed.above y a.0 same in
        IsIn-filter at T y (better y (w y (pS.within y a.0)) same lt) a.1)
        (IsIn-filter at T x iT (eq-eqb (f x) (seat_at r j).hospital (sym p.hospital)))
        (not_in_from x (filter at S) (λ h. not_both (has x S) (within-filter at S x h) out)) in
        let capT = pT.caps.at_seat i j p.region p.seat in
        ⊎_elim
        (λ c. absurd (omega arith))
        (λ d.
        let capS = d.full in
        let allT = pT.caps.in_region i p.region in
        let eS = count_in-sum f r S (region_ok n f regions ok i p.region) in
        let eT = count_in-sum f r T (region_ok n f regions ok i p.region) in
        let k = some_less (λ s. count_at f s S) (λ s. count_at f s T) r.seats no_seat j p.seat less (omega arith) in
        let full = fewer_full i k.0 p.region k.1 k.2 in
        let kk : count_at f (seat_at r k.0) T < count_at f (seat_at r k.0) S = k.2 in
        let a = full.later j p.seat (omega arith) in
        let b = d.later k.0 k.1 (omega arith) in
        let u = turn_rises (length r.seats) k.0 (seat_at r k.0).target (count_at f (seat_at r k.0) T + 1) (count_at f (seat_at r k.0) S) (omega arith) in
        let v = turn_rises (length r.seats) j (seat_at r j).target (count_at f (seat_at r j) S + 1) (count_at f (seat_at r j) T) (omega arith) in
        omega arith)
        passed.no_seat
      where
        better : (y : ℕ) → IsIn y Y → f y ≡ f x → y < x → IsIn y T
        better y iy same lt =
            ⊎_elim
            (λ h. h)
            (λ no.
            let t = ok.all y (sY.below y iy) in
            let p = pT.passed y t.0 t.1 iy no t.2 in
            let lt2 = p.above x iT (sym same) in
            absurd (omega arith))
            (cases_has y T)

    pub picked_substitutes : (x : ℕ) → IsIn x X → IsIn x T → IsIn x S
    picked_substitutes x ix iT = ⊎_elim (λ h. h) (λ no. absurd (refused_of_more x ix iT no)) (cases_has x S)

    below_S : IsSetBelow n S
    below_S = record { ascending = pS.set; below = λ x h. sY.below x (w x (pS.within x h)) }

    below_T : IsSetBelow n T
    below_T = record { ascending = pT.set; below = λ x h. sY.below x (pT.within x h) }

    pub picked_sizes : length S ≤ length T
    picked_sizes =
        ⊎_elim
        (λ less.
        let eS = length-sum S below_S in
        let eT = length-sum T below_T in
        let i = some_more (λ r. count_in f r T) (λ r. count_in f r S) regions no_region (omega arith) in
        let r = region_at regions i.0 in
        let eiS = count_in-sum f r S (region_ok n f regions ok i.0 i.1) in
        let eiT = count_in-sum f r T (region_ok n f regions ok i.0 i.1) in
        let li : count_in f r T < count_in f r S = i.2 in
        let j = some_more (λ s. count_at f s T) (λ s. count_at f s S) r.seats no_seat (omega arith) in
        let full = fewer_full i.0 j.0 i.1 j.1 j.2 in
        let c = full.full in
        let cap = pS.caps.in_region i.0 i.1 in
        absurd (omega arith))
        (λ le. le)
        (cases_lt (length T) (length S))

    pub picked_same : IsWithin T X → S ≡ T
    picked_same inside = sym (same_from_length T S pT.set pS.set (λ x h. picked_substitutes x (inside x h) h) picked_sizes)

-- what regions keep is lawful
pub flexible_lawful : (n : ℕ) (b : Board) (regions : List Region) → IsRegions n (hospital_of b) regions → IsChoice n (flexible b regions)
flexible_lawful n b regions ok =
    let f = hospital_of b in
    let pick = λ (X : List ℕ) (s : IsSetBelow n X). flexible_picked b regions n ok X s.ascending in
    record {
      ascending = λ X s. (pick X s).set;
      within = λ X s. (pick X s).within;
      same = λ X Y s t w inside. picked_same n f regions ok X Y (flexible b regions X) (flexible b regions Y) s.ascending t w (pick X s) (pick Y t) inside;
      kept = λ X Y s t w. picked_substitutes n f regions ok X Y (flexible b regions X) (flexible b regions Y) s.ascending t w (pick X s) (pick Y t);
      sizes = λ X Y s t w. picked_sizes n f regions ok X Y (flexible b regions X) (flexible b regions Y) s.ascending t w (pick X s) (pick Y t);
    }
