-- The targets' fill, told by how many contracts are left at each hospital.
use Rattle.std.proofs.Common.{◌≡◌, ℕ, ◌+◌, ◌-◌, ◌<◌, ◌≤◌, false, List, [], length, get_or, set, take, filter, eqb, min, sym, ap, ◌∙◌, subst, ⊎_elim, arith, eq-eqb}
use Rattle.std.specs.Prelude.{sum_by}
use Rattle.std.proofs.lemmas.Bool.{cases_eq}
use Rattle.std.proofs.lemmas.List.{length-set, get_or-set_same, get_or-set_other, take_all}
use Rattle.std.proofs.lemmas.List.Sums.{sum_by_more, sum_by_more_le_part}
use Rattle.rm_sets.proofs.Sets.{not_both, IsSet-filter}
use Rattle.rm_sets.proofs.Members.{within-filter}
use Rattle.rm_market.specs.Board.{Board, hospital_of}
use Rattle.rm_market.specs.Flexible.{Region, up_to_targets, held_at}
use Rattle.rm_flexible_laws.specs.Region.{no_seat, seat_at, IsRegion}
use Rattle.rm_flexible_laws.proofs.ByCounts.{count_in, is_of}
use Rattle.rm_flexible_laws.proofs.Tests.{any_at, sums_le}
use Rattle.rm_flexible_laws.proofs.Counts.{count_in-sum, filter_all}
use Rattle.rm_flexible_laws.proofs.First.{seats_one, firsts, is_first, firsts_count, firsts_cap}
use Rattle.rm_flexible.specs.Counts.{IsOffered, AreLeft, IsInRound, has_hospital}
use Rattle.rm_flexible.proofs.Taking.{turns_first}

-- the first i hospitals have filled their targets, from these counts to those
pub record IsFilled (r : Region) (old : List ℕ) (i : ℕ) (counts : List ℕ) (total : ℕ) : Type 0 where
  pub long : length counts ≡ length old
  pub done : (j : ℕ) → j < i → get_or counts (seat_at r j).hospital 0 + min (seat_at r j).target (get_or old (seat_at r j).hospital 0) ≡ get_or old (seat_at r j).hospital 0
  pub others : (h : ℕ) → ((j : ℕ) → j < i → (seat_at r j).hospital ≡ h → ⊥) → get_or counts h 0 ≡ get_or old h 0
  pub sum : total ≡ sum_by (λ s. min s.target (get_or old s.hospital 0)) (take i r.seats)

module _ (r : Region) (ok : IsRegion r) (old : List ℕ) where
  -- the next hospital still has all its contracts
  pub filled_here : (i : ℕ) (counts : List ℕ) (total : ℕ) → IsFilled r old i counts total → i < length r.seats → get_or counts (seat_at r i).hospital 0 ≡ get_or old (seat_at r i).hospital 0
  filled_here i counts total f lt = f.others (seat_at r i).hospital (λ j less same. let e = seats_one r ok j i (omega (arith, less, lt)) lt same in omega (arith, e, less))

  -- there is place for what it takes
  pub filled_cap : (i : ℕ) (counts : List ℕ) (total : ℕ) → IsFilled r old i counts total → i < length r.seats → total + min (seat_at r i).target (get_or old (seat_at r i).hospital 0) ≤ r.cap
  filled_cap i counts total f lt =
      let whole = sum_by_more_le_part (λ s. min s.target (get_or old s.hospital 0)) (λ s. s.target) r.seats i no_seat lt (λ s. omega arith) in
      let sum = f.sum in
      let cap = ok.cap in
      omega (arith, whole, sum, cap)

  pub filled_more : (i : ℕ) (counts : List ℕ) (total taken : ℕ) → IsFilled r old i counts total → i < length r.seats → (seat_at r i).hospital < length counts →
      taken ≡ min (seat_at r i).target (get_or counts (seat_at r i).hospital 0) → IsFilled r old (i + 1) (set counts (seat_at r i).hospital (get_or counts (seat_at r i).hospital 0 - taken)) (total + taken)
  filled_more i counts total taken f lt inside e =
      let here = filled_here i counts total f lt in
      let less = get_or-set_same counts (seat_at r i).hospital (get_or counts (seat_at r i).hospital 0 - taken) 0 inside in
      record {
        long = length-set counts (seat_at r i).hospital (get_or counts (seat_at r i).hospital 0 - taken) ∙ f.long;
        done = λ j lj. ⊎_elim
            (λ same. subst (λ k. get_or (set counts (seat_at r i).hospital (get_or counts (seat_at r i).hospital 0 - taken)) (seat_at r k).hospital 0 + min (seat_at r k).target (get_or old (seat_at r k).hospital 0) ≡ get_or old (seat_at r k).hospital 0) (sym same) (omega (arith, here, less, e)))
            (λ ne.
            let o = get_or-set_other counts (seat_at r i).hospital (seat_at r j).hospital (get_or counts (seat_at r i).hospital 0 - taken) 0 (λ same. ne (seats_one r ok j i (omega (arith, lj, lt)) lt same)) in
            let d = f.done j (omega (arith, lj, ne)) in
            omega (arith, o, d))
            (cases_eq j i);
        others = λ h out.
            get_or-set_other counts (seat_at r i).hospital h (get_or counts (seat_at r i).hospital 0 - taken) 0 (λ same. out i (omega arith) (sym same))
            ∙ f.others h (λ j lj. out j (omega (arith, lj)));
        sum =
            let more = sum_by_more (λ s. min s.target (get_or old s.hospital 0)) r.seats i no_seat lt in
            let sum = f.sum in
            omega (arith, more, sum, e, here);
      }

  pub filled_others : (counts : List ℕ) (total i : ℕ) → IsFilled r old i counts total → i ≤ length r.seats → (h : ℕ) → has_hospital r h ≡ false → get_or counts h 0 ≡ get_or old h 0
  filled_others counts total i f le h out = f.others h (λ j lt same. not_both (has_hospital r h) (any_at (λ s. eqb s.hospital h) r.seats no_seat j (omega (arith, lt, le)) (eq-eqb (seat_at r j).hospital h same)) out)

  -- the fill is what fills the targets
  pub filled_taken : (b : Board) (X : List ℕ) (counts : List ℕ) (total : ℕ) → IsOffered b r X → AreLeft b r X [] old → IsFilled r old (length r.seats) counts total → IsInRound b r X (up_to_targets b r X) 0 0 counts total
  filled_taken b X counts total offered left f =
      let K = firsts (hospital_of b) r X in
      let sK = IsSet-filter (is_first (hospital_of b) r X) X offered.set in
      let wK = within-filter (is_first (hospital_of b) r X) X in
      let cap = firsts_cap (hospital_of b) r ok X offered.set offered.inside in
      record {
        taken = record {
          set = sK;
          within = wK;
          total = size;
          cap = omega (arith, cap, size);
          left = λ j lj. let d = f.done j lj in let l = left j lj in let c = firsts_count (hospital_of b) r ok X offered.set j lj in omega (arith, d, l, c);
        };
        most = λ j lj. let c = firsts_count (hospital_of b) r ok X offered.set j lj in omega (arith, c);
        each = λ j lj room some free.
            let d = f.done j lj in
            let l = left j lj in
            let c = firsts_count (hospital_of b) r ok X offered.set j lj in
            let t = turns_first 0 j in
            omega (arith, d, l, c, t, some);
      }
    where
      same_sum : sum_by (λ s. held_at b (firsts (hospital_of b) r X) s) r.seats ≡ sum_by (λ s. min s.target (get_or old s.hospital 0)) r.seats
      same_sum =
          let up = sums_le (λ s. held_at b (firsts (hospital_of b) r X) s) (λ s. min s.target (get_or old s.hospital 0)) r.seats no_seat
          (λ k lk. let l = left k lk in let c = firsts_count (hospital_of b) r ok X offered.set k lk in omega (arith, l, c)) in
          let down = sums_le (λ s. min s.target (get_or old s.hospital 0)) (λ s. held_at b (firsts (hospital_of b) r X) s) r.seats no_seat
          (λ k lk. let l = left k lk in let c = firsts_count (hospital_of b) r ok X offered.set k lk in omega (arith, l, c)) in
          omega (arith, up, down)

      size : length (firsts (hospital_of b) r X) ≡ total
      size =
          let K = firsts (hospital_of b) r X in
          let whole : filter (is_of (hospital_of b) r) K ≡ K =
          filter_all (is_of (hospital_of b) r) K (IsSet-filter (is_first (hospital_of b) r X) X offered.set) (λ x i. offered.inside x (within-filter (is_first (hospital_of b) r X) X x i)) in
          let l : count_in (hospital_of b) r K ≡ length K = ap length whole in
          let e = count_in-sum (hospital_of b) r K ok in
          let s = same_sum in
          let t : total ≡ sum_by (λ s. min s.target (get_or old s.hospital 0)) r.seats = f.sum ∙ ap (λ L. sum_by (λ s. min s.target (get_or old s.hospital 0)) L) (take_all (length r.seats) r.seats (omega arith)) in
          omega (arith, l, e, s, t)
