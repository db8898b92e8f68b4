-- The turns: what holds after each of them.
use Rattle.std.proofs.Common.{◌≡◌, ℕ, zero, suc, ◌+◌, ◌-◌, ◌*◌, ◌<◌, ◌≤◌, true, false, not, cond, ◌&&◌, List, [], ◌∷◌, length, get_or, eqb, ltb, Option, Some, None, filter, refl, sym, ap, ◌∙◌, subst, ⊎_elim, arith, eq-eqb, ne_eqb, eqb-true, add-one, append-nil}
use Rattle.std.specs.Prelude.{find, fold, flat_map}
use Rattle.std.specs.Option.{option_map_or}
use Rattle.std.proofs.Math.Nat.{mul-le-mul_right}
use Rattle.std.proofs.lemmas.Bool.{cases_eq, cases_order, and_parts, and_cases, not-true, not-false, ltb-true, ltb-false, cond_both}
use Rattle.std.proofs.lemmas.List.Sums.{fold-append}
use Rattle.std.proofs.lemmas.List.Concat.{flat_map-append}
use Rattle.rm_sets.specs.Sets.{has, IsIn, IsSet, IsWithin, with_one, all_below}
use Rattle.rm_sets.proofs.Sets.{not_both, IsSet-filter, IsSet-with_one, IsIn-with_one_cases}
use Rattle.rm_sets.proofs.Members.{IsIn-filter, IsIn-from_filter, within-filter, not_in_from, IsIn-with_one_old, with_one_within}
use Rattle.rm_sets.proofs.Sizes.{length-with_one}
use Rattle.rm_valuation_laws.proofs.Counts.{one}
use Rattle.rm_market.specs.Flexible.{Seat, Region}
use Rattle.rm_flexible_laws.specs.Region.{no_seat, seat_at, IsRegion}
use Rattle.rm_flexible_laws.proofs.ByCounts.{count_at, is_of, turn_of}
use Rattle.rm_flexible_laws.proofs.Keys.{turn_low, turn_high, turn_grows, turns_apart, turn_positive, past_from_turn, past, rows}
use Rattle.rm_flexible_laws.proofs.Tests.{IsFirst, find_first, find_none}
use Rattle.rm_flexible_laws.proofs.Counts.{passing-with_one}
use Rattle.rm_flexible_laws.proofs.First.{firsts, is_first, seats_one, firsts_count, firsts_left, firsts_top, firsts_cap}

-- at its turn a hospital takes its best contract of X that isn't in K
abbrev pub after : (ℕ → ℕ) → Region → List ℕ → List ℕ → Seat → List ℕ
after f r X K s =
    cond (ltb (length K) r.cap && ltb (count_at f s K) s.capacity)
    (option_map_or (λ x. with_one K x) (find (λ x. not (has x K)) (filter (λ x. eqb (f x) s.hospital) X)) K)
    K

-- the region is full, and every seat that is taken has an earlier turn than the next seat of hospital j
pub record IsDone (f : ℕ → ℕ) (r : Region) (K : List ℕ) (j : ℕ) : Type 0 where
  pub full : length K ≡ r.cap
  pub later : (k : ℕ) → k < length r.seats → turn_of r k (count_at f (seat_at r k) K) < turn_of r j (count_at f (seat_at r j) K + 1)

-- why contracts are left at hospital j after i turns: it has no seat left, the region is full, or its turn comes later
pub data Why (f : ℕ → ℕ) (r : Region) (i : ℕ) (K : List ℕ) (j : ℕ) : Type 0 where
  NoSeat : count_at f (seat_at r j) K ≡ (seat_at r j).capacity → Why f r i K j
  Done : IsDone f r K j → Why f r i K j
  Later : i < turn_of r j (count_at f (seat_at r j) K + 1) → Why f r i K j

-- after i turns
pub record IsAfter (f : ℕ → ℕ) (r : Region) (X : List ℕ) (i : ℕ) (K : List ℕ) : Type 0 where
  pub set : IsSet K
  pub within : IsWithin K X
  pub top : (x y : ℕ) → IsIn y K → IsIn x X → f x ≡ f y → x < y → IsIn x K
  pub count : length K ≤ r.cap
  pub seats : (j : ℕ) → j < length r.seats → count_at f (seat_at r j) K ≤ (seat_at r j).capacity
  pub turns : (j : ℕ) → j < length r.seats → turn_of r j (count_at f (seat_at r j) K) ≤ i
  pub left : (x j : ℕ) → IsIn x X → has x K ≡ false → j < length r.seats → (seat_at r j).hospital ≡ f x → Why f r i K j

rows_le : (m a b : ℕ) → a ≤ b → a * m ≤ b * m
rows_le m a b le = mul-le-mul_right m le

-- ---- at the start

module _ (f : ℕ → ℕ) (r : Region) (ok : IsRegion r) (X : List ℕ) (sX : IsSet X) (inside : (x : ℕ) → IsIn x X → (j : ℕ) × (j < length r.seats) × ((seat_at r j).hospital ≡ f x)) where
  pub at_start : ((x : ℕ) → IsIn x X → is_of f r x ≡ true) → IsAfter f r X 0 (firsts f r X)
  at_start all = record {
    set = IsSet-filter (is_first f r X) X sX;
    within = within-filter (is_first f r X) X;
    top = λ x y iy ix e lt. let p = inside x ix in firsts_top f r ok X sX x y p.0 iy ix e lt p.1 p.2;
    count = firsts_cap f r ok X sX all;
    seats = λ j lt. let c = firsts_count f r ok X sX j lt in let t = ok.targets j no_seat lt in omega arith;
    turns = λ j lt.
        let c = firsts_count f r ok X sX j lt in
        let z = turn_low (length r.seats) j (seat_at r j).target (count_at f (seat_at r j) (firsts f r X)) (omega arith) in
        omega arith;
    left = λ x j i out lt e.
        let c = firsts_left f r ok X sX x j i out lt e in
        Later (turn_positive (length r.seats) j (seat_at r j).target (count_at f (seat_at r j) (firsts f r X) + 1) (omega arith));
  }

  -- ---- one turn

  -- K stays, as it is full or hospital p has no seat left or no contract
  stays : (i p : ℕ) (K : List ℕ) → IsAfter f r X i K →
      ((x j : ℕ) → IsIn x X → has x K ≡ false → j < length r.seats → (seat_at r j).hospital ≡ f x → i + 1 ≡ turn_of r j (count_at f (seat_at r j) K + 1) → Why f r (i + 1) K j) →
      IsAfter f r X (i + 1) K
  stays i p K a now = record {
    set = a.set;
    within = a.within;
    top = a.top;
    count = a.count;
    seats = a.seats;
    turns = λ j lt. let t = a.turns j lt in omega arith;
    left = λ x j ix out lt e. elim (a.left x j ix out lt e) [
      | NoSeat c ↦ NoSeat c
      | Done d ↦ Done d
      | Later l ↦ ⊎_elim (λ same. now x j ix out lt e same) (λ other. Later (omega arith)) (cases_eq (i + 1) (turn_of r j (count_at f (seat_at r j) K + 1)))
    ];
  }

  -- the turn of hospital p in round q is that of no other hospital
  not_other : (q p j k : ℕ) → p < length r.seats → j < length r.seats → (j ≡ p → ⊥) → (q * length r.seats + p) + 1 ≡ turn_of r j k → ⊥
  not_other q p j k lp lj ne e =
      let m = length r.seats in
      let own = turn_high m p (seat_at r p).target ((seat_at r p).target + (q + 1)) q refl in
      ne (turns_apart m j p (seat_at r j).target (seat_at r p).target k ((seat_at r p).target + (q + 1)) lj lp
      (past_from_turn m j (seat_at r j).target k (q * m + p) (omega arith)) (omega arith) (sym e ∙ (omega arith)))

  -- a hospital that takes a contract in round q fills the seat of that round
  own_turn : (q p c : ℕ) → p < length r.seats → q * length r.seats + p < turn_of r p (c + 1) → turn_of r p c ≤ q * length r.seats + p → turn_of r p (c + 1) ≡ (q * length r.seats + p) + 1
  own_turn q p c lp up down =
      let m = length r.seats in
      let t = (seat_at r p).target in
      let high = past_from_turn m p t (c + 1) (q * m + p) up in
      let e = past t (c + 1) high in
      let here = turn_high m p t (c + 1) e.0 e.1 in
      let es : c + 1 ≡ t + (e.0 + 1) = e.1 in
      ⊎_elim
      (λ same. let s = ap (λ z. z * m) same in omega arith)
      (λ other. ⊎_elim
      (λ less. let s = rows m e.0 q less in absurd (omega arith))
      (λ more.
      let before = turn_high m p t c (e.0 - 1) (omega arith) in
      let s = rows m (e.0 - 1) e.0 (omega arith) in
      let s2 = rows_le m q (e.0 - 1) (omega arith) in
      absurd (omega arith))
      other)
      (cases_order e.0 q)

  -- hospital p takes x, its best contract that isn't in K
  takes : (q p : ℕ) (K : List ℕ) (x : ℕ) → p < length r.seats → IsAfter f r X (q * length r.seats + p) K → length K < r.cap → count_at f (seat_at r p) K < (seat_at r p).capacity →
      IsFirst (λ y. not (has y K)) (filter (λ y. eqb (f y) (seat_at r p).hospital) X) x → IsAfter f r X ((q * length r.seats + p) + 1) (with_one K x)
  takes q p K x lp a room free first =
      let m = length r.seats in
      let i = q * m + p in
      let mem = IsIn-from_filter (λ y. eqb (f y) (seat_at r p).hospital) X x first.member in
      let fx : f x ≡ (seat_at r p).hospital = eqb-true (f x) (seat_at r p).hospital mem.1 in
      let out : has x K ≡ false = not-true (has x K) first.passes in
      let turn : turn_of r p (count_at f (seat_at r p) K + 1) ≡ i + 1 =
      own_turn q p (count_at f (seat_at r p) K) lp (comes (a.left x p mem.0 out lp (sym fx))) (a.turns p lp) in
      let size = length-with_one K x out in
      record {
        set = IsSet-with_one K x a.set;
        within = with_one_within K X x a.within mem.0;
        top = λ y z iz iy e lt. ⊎_elim
            (λ old. IsIn-with_one_old K x y (a.top y z old iy e lt))
            (λ same. IsIn-with_one_old K x y (before y iy (e ∙ ap f same) (omega arith)))
            (IsIn-with_one_cases z K x iz);
        count = omega arith;
        seats = λ j lt. ⊎_elim
            (λ same. subst (λ k. count_at f (seat_at r k) (with_one K x) ≤ (seat_at r k).capacity) (sym same) (let e = here fx out in omega arith))
            (λ ne. let e = elsewhere j lt ne fx out in let s = a.seats j lt in omega arith)
            (cases_eq j p);
        turns = λ j lt. ⊎_elim
            (λ same. subst (λ k. turn_of r k (count_at f (seat_at r k) (with_one K x)) ≤ i + 1) (sym same) (let e = ap (λ n. turn_of r p n) (here fx out) in omega arith))
            (λ ne. let e = ap (λ n. turn_of r j n) (elsewhere j lt ne fx out) in let t = a.turns j lt in omega arith)
            (cases_eq j p);
        left = λ y j iy outy lt e.
            let outK : has y K ≡ false = not_in_from y K (λ old. not_both (has y (with_one K x)) (IsIn-with_one_old K x y old) outy) in
            ⊎_elim
            (λ same. subst (λ k. Why f r (i + 1) (with_one K x) k) (sym same) (Later (
            let c = here fx out in
            let n = ap (λ z. turn_of r p (z + 1)) c in
            let up = turn_grows m p (seat_at r p).target (count_at f (seat_at r p) K + 1) ((count_at f (seat_at r p) K + 1) + 1) lp (omega arith) (high turn) in
            omega arith)))
            (λ ne. elim (a.left y j iy outK lt e) [
              | NoSeat c ↦ NoSeat (elsewhere j lt ne fx out ∙ c)
              | Done d ↦ absurd (let full = d.full in omega arith)
              | Later l ↦ Later (
                  let c = ap (λ z. turn_of r j (z + 1)) (elsewhere j lt ne fx out) in
                  let no : i + 1 ≡ turn_of r j (count_at f (seat_at r j) K + 1) → ⊥ = not_other q p j (count_at f (seat_at r j) K + 1) lp lt ne in
                  omega arith)
            ])
            (cases_eq j p);
      }
    where
      comes : Why f r (q * length r.seats + p) K p → q * length r.seats + p < turn_of r p (count_at f (seat_at r p) K + 1)
      comes w = elim w [
        | NoSeat c ↦ absurd (omega arith)
        | Done d ↦ absurd (let full = d.full in omega arith)
        | Later l ↦ l
      ]

      before : (y : ℕ) → IsIn y X → f y ≡ f x → y < x → IsIn y K
      before y iy e lt =
          let mem = IsIn-from_filter (λ z. eqb (f z) (seat_at r p).hospital) X x first.member in
          not-false (has y K) (first.first y (IsIn-filter (λ z. eqb (f z) (seat_at r p).hospital) X y iy (eq-eqb (f y) (seat_at r p).hospital (e ∙ eqb-true (f x) (seat_at r p).hospital mem.1))) lt)

      high : turn_of r p (count_at f (seat_at r p) K + 1) ≡ (q * length r.seats + p) + 1 → (seat_at r p).target < (count_at f (seat_at r p) K + 1) + 1
      high e = let h = past_from_turn (length r.seats) p (seat_at r p).target (count_at f (seat_at r p) K + 1) (q * length r.seats + p) (omega arith) in omega arith

      here : f x ≡ (seat_at r p).hospital → has x K ≡ false → count_at f (seat_at r p) (with_one K x) ≡ count_at f (seat_at r p) K + 1
      here fx out =
          let e = passing-with_one (λ z. eqb (f z) (seat_at r p).hospital) K x out in
          let o : one (eqb (f x) (seat_at r p).hospital) ≡ 1 = ap one (eq-eqb (f x) (seat_at r p).hospital fx) in
          omega arith

      elsewhere : (j : ℕ) → j < length r.seats → (j ≡ p → ⊥) → f x ≡ (seat_at r p).hospital → has x K ≡ false → count_at f (seat_at r j) (with_one K x) ≡ count_at f (seat_at r j) K
      elsewhere j lt ne fx out =
          let e = passing-with_one (λ z. eqb (f z) (seat_at r j).hospital) K x out in
          let o : one (eqb (f x) (seat_at r j).hospital) ≡ 0 = ap one (ne_eqb (f x) (seat_at r j).hospital (λ same. ne (seats_one r ok j p lt lp (sym same ∙ fx)))) in
          omega arith

  -- hospital p keeps as many as before
  passes : (q p : ℕ) (K : List ℕ) → p < length r.seats → IsAfter f r X (q * length r.seats + p) K →
      ((x : ℕ) → IsIn x X → has x K ≡ false → (seat_at r p).hospital ≡ f x → Why f r ((q * length r.seats + p) + 1) K p) →
      IsAfter f r X ((q * length r.seats + p) + 1) K
  passes q p K lp a why =
      stays (q * length r.seats + p) p K a (λ x j ix out lt e now. ⊎_elim
      (λ same. subst (λ k. Why f r ((q * length r.seats + p) + 1) K k) (sym same) (why x ix out (subst (λ k. (seat_at r k).hospital ≡ f x) same e)))
      (λ ne. absurd (not_other q p j (count_at f (seat_at r j) K + 1) lp lt ne now))
      (cases_eq j p))

  -- the region is full
  full_stays : (q p : ℕ) (K : List ℕ) → IsAfter f r X (q * length r.seats + p) K → length K ≡ r.cap → IsAfter f r X ((q * length r.seats + p) + 1) K
  full_stays q p K a full =
      stays (q * length r.seats + p) p K a (λ x j ix out lt e now. Done (record { full = full; later = λ k lk. let t = a.turns k lk in omega arith }))

  at_turn : (q p : ℕ) (K : List ℕ) → p < length r.seats → IsAfter f r X (q * length r.seats + p) K → IsAfter f r X ((q * length r.seats + p) + 1) (after f r X K (seat_at r p))
  at_turn q p K lp a =
      cond_both (ltb (length K) r.cap && ltb (count_at f (seat_at r p) K) (seat_at r p).capacity)
      (option_map_or (λ x. with_one K x) (find (λ x. not (has x K)) (filter (λ x. eqb (f x) (seat_at r p).hospital) X)) K) K
      (λ S. IsAfter f r X ((q * length r.seats + p) + 1) S)
      (λ yes. let both = and_parts (ltb (length K) r.cap) (ltb (count_at f (seat_at r p) K) (seat_at r p).capacity) yes in
      looks (find (λ x. not (has x K)) (filter (λ x. eqb (f x) (seat_at r p).hospital) X)) refl (ltb-true (length K) r.cap both.0) (ltb-true (count_at f (seat_at r p) K) (seat_at r p).capacity both.1))
      (λ no. ⊎_elim
      (λ full. full_stays q p K a (let le = ltb-false (length K) r.cap full in let c = a.count in omega arith))
      (λ none. passes q p K lp a (λ x ix out e. NoSeat (let le = ltb-false (count_at f (seat_at r p) K) (seat_at r p).capacity none in let c = a.seats p lp in omega arith)))
      (and_cases (ltb (length K) r.cap) (ltb (count_at f (seat_at r p) K) (seat_at r p).capacity) no))
    where
      looks : (o : Option ℕ) → find (λ x. not (has x K)) (filter (λ x. eqb (f x) (seat_at r p).hospital) X) ≡ o → length K < r.cap → count_at f (seat_at r p) K < (seat_at r p).capacity →
          IsAfter f r X ((q * length r.seats + p) + 1) (option_map_or (λ x. with_one K x) o K)
      looks None e room free =
          passes q p K lp a (λ x ix out h.
          absurd (not_both (has x K) (not-false (has x K) (find_none (λ y. not (has y K)) (filter (λ y. eqb (f y) (seat_at r p).hospital) X) e x
          (IsIn-filter (λ y. eqb (f y) (seat_at r p).hospital) X x ix (eq-eqb (f x) (seat_at r p).hospital (sym h))))) out))
      looks (Some x) e room free = takes q p K x lp a room free (find_first (λ y. not (has y K)) (filter (λ y. eqb (f y) (seat_at r p).hospital) X) (IsSet-filter (λ y. eqb (f y) (seat_at r p).hospital) X sX) x e)

  -- ---- all turns

  -- the rest of a round, from place p on
  rest_of_round : (q p : ℕ) (rest : List Seat) (K : List ℕ) → p + length rest ≡ length r.seats → ((k : ℕ) → k < length rest → get_or rest k no_seat ≡ seat_at r (p + k)) →
      IsAfter f r X (q * length r.seats + p) K → IsAfter f r X (q * length r.seats + length r.seats) (fold (after f r X) K rest)
  rest_of_round q p [] K e same a = subst (λ i. IsAfter f r X i K) (omega arith) a
  rest_of_round q p (s ∷ rest) K e same a =
      let here : s ≡ seat_at r p = same zero (omega arith) ∙ ap (λ k. seat_at r k) (omega arith) in
      let next : IsAfter f r X ((q * length r.seats + p) + 1) (after f r X K s) = subst (λ t. IsAfter f r X ((q * length r.seats + p) + 1) (after f r X K t)) (sym here) (at_turn q p K (omega arith) a) in
      rest_of_round q (p + 1) rest (after f r X K s) (omega arith)
      (λ k lt. same (suc k) (omega arith) ∙ ap (λ j. seat_at r j) (omega arith))
      (subst (λ i. IsAfter f r X i (after f r X K s)) (omega arith) next)

  at_round : (q : ℕ) (K : List ℕ) → IsAfter f r X (q * length r.seats) K → IsAfter f r X ((q + 1) * length r.seats) (fold (after f r X) K r.seats)
  at_round q K a =
      let e : q * length r.seats + length r.seats ≡ (q + 1) * length r.seats = omega arith in
      subst (λ i. IsAfter f r X i (fold (after f r X) K r.seats)) e
      (rest_of_round q 0 r.seats K (omega arith) (λ k lt. ap (λ j. seat_at r j) (omega arith)) (subst (λ i. IsAfter f r X i K) (omega arith) a))

  pub rounds : (n : ℕ) (K : List ℕ) → IsAfter f r X 0 K → IsAfter f r X (n * length r.seats) (fold (after f r X) K (flat_map (λ k. r.seats) (all_below n (λ k. true))))
  rounds zero K a = subst (λ i. IsAfter f r X i K) (omega arith) a
  rounds (suc n) K a =
      let before = rounds n K a in
      let next = at_round n (fold (after f r X) K (flat_map (λ k. r.seats) (all_below n (λ k. true)))) before in
      let e : fold (after f r X) K (flat_map (λ k. r.seats) (all_below (suc n) (λ k. true))) ≡ fold (after f r X) (fold (after f r X) K (flat_map (λ k. r.seats) (all_below n (λ k. true)))) r.seats =
      ap (λ L. fold (after f r X) K L) (flat_map-append (λ k. r.seats) (all_below n (λ k. true)) (n ∷ []))
      ∙ (fold-append (after f r X) K (flat_map (λ k. r.seats) (all_below n (λ k. true))) (flat_map (λ k. r.seats) (n ∷ []))
      ∙ ap (λ L. fold (after f r X) (fold (after f r X) K (flat_map (λ k. r.seats) (all_below n (λ k. true)))) L) (append-nil r.seats)) in
      subst (λ S. IsAfter f r X (suc n * length r.seats) S) (sym e) (subst (λ i. IsAfter f r X (i * length r.seats) (fold (after f r X) (fold (after f r X) K (flat_map (λ k. r.seats) (all_below n (λ k. true)))) r.seats)) (add-one n) next)
