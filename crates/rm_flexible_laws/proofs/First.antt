-- The targets' fill: each hospital keeps its best, as many as its target.
use Rattle.std.proofs.Common.{◌≡◌, ℕ, ◌<◌, ◌≤◌, Bool, true, false, ◌&&◌, List, length, eqb, ltb, filter, count_by, min, refl, sym, ap, ◌∙◌, subst, ⊎_elim, arith, eq-eqb, eqb-true}
use Rattle.std.specs.Prelude.{sum_by}
use Rattle.std.specs.List.{list_any}
use Rattle.std.proofs.lemmas.Bool.{cases_order, and_parts, and_from, lt-ltb, ltb-true, ltb-false}
use Rattle.std.proofs.lemmas.List.Sums.{length-filter, count_by-le-length}
use Rattle.rm_sets.specs.Sets.{has, IsIn, IsSet}
use Rattle.rm_sets.proofs.Sets.{not_both, same_within, IsSet-filter, same_tests}
use Rattle.rm_sets.proofs.Members.{IsIn-filter, IsIn-from_filter, within-filter}
use Rattle.rm_sets.proofs.Sizes.{length_within}
use Rattle.rm_market.specs.Flexible.{Region}
use Rattle.rm_flexible_laws.specs.Region.{no_seat, seat_at, IsRegion}
use Rattle.rm_flexible_laws.proofs.ByCounts.{count_at, count_in, is_of}
use Rattle.rm_flexible_laws.proofs.Tests.{any_at, at_any, sums_le}
use Rattle.rm_flexible_laws.proofs.Counts.{rank, count-filter, length_first, count_in-sum, filter_all}

-- how many contracts of X are ranked above x at its hospital
abbrev pub above : (ℕ → ℕ) → List ℕ → ℕ → ℕ
above f X x = count_by (λ y. eqb (f y) (f x) && ltb y x) X

-- w is at the hospital of z, and ranked above it
abbrev pub ahead : (ℕ → ℕ) → ℕ → ℕ → Bool
ahead f z w = eqb (f w) (f z) && ltb w z

abbrev pub is_first : (ℕ → ℕ) → Region → List ℕ → ℕ → Bool
is_first f r X x = list_any (λ s. eqb s.hospital (f x) && ltb (above f X x) s.target) r.seats

abbrev pub firsts : (ℕ → ℕ) → Region → List ℕ → List ℕ
firsts f r X = filter (is_first f r X) X

-- no two seats are of one hospital
pub seats_one : (r : Region) → IsRegion r → (j k : ℕ) → j < length r.seats → k < length r.seats → (seat_at r j).hospital ≡ (seat_at r k).hospital → j ≡ k
seats_one r ok j k lj lk e =
    ⊎_elim
    (λ same. same)
    (λ other. ⊎_elim (λ lt. absurd (ok.apart j k no_seat lt lk e)) (λ lt. absurd (ok.apart k j no_seat lt lj (sym e))) other)
    (cases_order j k)

module _ (f : ℕ → ℕ) (r : Region) (ok : IsRegion r) (X : List ℕ) (sX : IsSet X) where
  is_first_at : (x j : ℕ) → j < length r.seats → (seat_at r j).hospital ≡ f x → is_first f r X x ≡ ltb (above f X x) (seat_at r j).target
  is_first_at x j lt e =
      same_tests (is_first f r X x) (ltb (above f X x) (seat_at r j).target)
      (λ h.
      let t = at_any (λ s. eqb s.hospital (f x) && ltb (above f X x) s.target) r.seats no_seat h in
      let both = and_parts (eqb (seat_at r t.0).hospital (f x)) (ltb (above f X x) (seat_at r t.0).target) t.2 in
      let same : t.0 ≡ j = seats_one r ok t.0 j t.1 lt (eqb-true (seat_at r t.0).hospital (f x) both.0 ∙ sym e) in
      subst (λ k. ltb (above f X x) (seat_at r k).target ≡ true) same both.1)
      (λ h. any_at (λ s. eqb s.hospital (f x) && ltb (above f X x) s.target) r.seats no_seat j lt
      (and_from (eqb (seat_at r j).hospital (f x)) (ltb (above f X x) (seat_at r j).target) (eq-eqb (seat_at r j).hospital (f x) e) h))

  -- the rank among the hospital's own contracts
  pub above-rank : (x h : ℕ) → h ≡ f x → above f X x ≡ rank (filter (λ y. eqb (f y) h) X) x
  above-rank x h e = subst (λ z. count_by (λ y. eqb (f y) z && ltb y x) X ≡ rank (filter (λ y. eqb (f y) h) X) x) e (sym (count-filter (λ y. ltb y x) (λ y. eqb (f y) h) X))

  -- what is kept at a hospital
  firsts_at : (j : ℕ) → j < length r.seats →
      filter (λ x. eqb (f x) (seat_at r j).hospital) (firsts f r X)
      ≡ filter (λ x. ltb (rank (filter (λ y. eqb (f y) (seat_at r j).hospital) X) x) (seat_at r j).target) (filter (λ y. eqb (f y) (seat_at r j).hospital) X)
  firsts_at j lt =
      let h = (seat_at r j).hospital in
      let mine = filter (λ y. eqb (f y) h) X in
      let q = λ (x : ℕ). ltb (rank mine x) (seat_at r j).target in
      same_within (filter (λ x. eqb (f x) h) (firsts f r X)) (filter q mine)
      (IsSet-filter (λ x. eqb (f x) h) (firsts f r X) (IsSet-filter (is_first f r X) X sX)) (IsSet-filter q mine (IsSet-filter (λ y. eqb (f y) h) X sX))
      (λ x i.
      let a = IsIn-from_filter (λ y. eqb (f y) h) (firsts f r X) x i in
      let b = IsIn-from_filter (is_first f r X) X x a.0 in
      let e : h ≡ f x = sym (eqb-true (f x) h a.1) in
      IsIn-filter q mine x (IsIn-filter (λ y. eqb (f y) h) X x b.0 a.1)
      (sym (ap (λ n. ltb n (seat_at r j).target) (above-rank x h e)) ∙ (sym (is_first_at x j lt e) ∙ b.1)))
      (λ x i.
      let a = IsIn-from_filter q mine x i in
      let b = IsIn-from_filter (λ y. eqb (f y) h) X x a.0 in
      let e : h ≡ f x = sym (eqb-true (f x) h b.1) in
      IsIn-filter (λ y. eqb (f y) h) (firsts f r X) x
      (IsIn-filter (is_first f r X) X x b.0 (is_first_at x j lt e ∙ (ap (λ n. ltb n (seat_at r j).target) (above-rank x h e) ∙ a.1)))
      b.1)

  pub firsts_count : (j : ℕ) → j < length r.seats → count_at f (seat_at r j) (firsts f r X) ≡ min (seat_at r j).target (count_at f (seat_at r j) X)
  firsts_count j lt =
      ap length (firsts_at j lt)
      ∙ length_first (seat_at r j).target (filter (λ y. eqb (f y) (seat_at r j).hospital) X) (IsSet-filter (λ y. eqb (f y) (seat_at r j).hospital) X sX)

  -- where one is left, the target is reached
  pub firsts_left : (x j : ℕ) → IsIn x X → has x (firsts f r X) ≡ false → j < length r.seats → (seat_at r j).hospital ≡ f x → count_at f (seat_at r j) (firsts f r X) ≡ (seat_at r j).target
  firsts_left x j i out lt e =
      let c = firsts_count j lt in
      let h = (seat_at r j).hospital in
      let n = count_by-le-length (λ y. ltb y x) (filter (λ y. eqb (f y) h) X) in
      let a = above-rank x h e in
      let high : ltb (above f X x) (seat_at r j).target ≡ false =
      sym (is_first_at x j lt e) ∙ not_first (is_first f r X x) refl in
      let le = ltb-false (above f X x) (seat_at r j).target high in
      omega arith
    where
      not_first : (b : Bool) → is_first f r X x ≡ b → is_first f r X x ≡ false
      not_first true t = absurd (not_both (has x (firsts f r X)) (IsIn-filter (is_first f r X) X x i t) out)
      not_first false t = t

  -- the better ranked are kept too
  pub firsts_top : (x y j : ℕ) → IsIn y (firsts f r X) → IsIn x X → f x ≡ f y → x < y → j < length r.seats → (seat_at r j).hospital ≡ f x → IsIn x (firsts f r X)
  firsts_top x y j iy ix same lt lj e =
      let b = IsIn-from_filter (is_first f r X) X y iy in
      let ty = ltb-true (above f X y) (seat_at r j).target (sym (is_first_at y j lj (e ∙ same)) ∙ b.1) in
      let le : above f X x ≤ above f X y = fewer in
      IsIn-filter (is_first f r X) X x ix (is_first_at x j lj e ∙ lt-ltb (above f X x) (seat_at r j).target (omega arith))
    where
      subset : length (filter (ahead f x) X) ≤ length (filter (ahead f y) X)
      subset =
          length_within (filter (ahead f x) X) (filter (ahead f y) X) (IsSet-filter (ahead f x) X sX) (IsSet-filter (ahead f y) X sX)
          (λ w i.
          let a = IsIn-from_filter (ahead f x) X w i in
          let both = and_parts (eqb (f w) (f x)) (ltb w x) a.1 in
          let less = ltb-true w x both.1 in
          IsIn-filter (ahead f y) X w a.0 (and_from (eqb (f w) (f y)) (ltb w y) (eq-eqb (f w) (f y) (eqb-true (f w) (f x) both.0 ∙ same)) (lt-ltb w y (omega arith))))

      fewer : above f X x ≤ above f X y
      fewer =
          let ex = length-filter (ahead f x) X in
          let ey = length-filter (ahead f y) X in
          let le = subset in
          omega arith

  -- in all they are no more than the targets
  pub firsts_cap : ((x : ℕ) → IsIn x X → is_of f r x ≡ true) → length (firsts f r X) ≤ r.cap
  firsts_cap inside =
      let whole : filter (is_of f r) (firsts f r X) ≡ firsts f r X = filter_all (is_of f r) (firsts f r X) (IsSet-filter (is_first f r X) X sX) (λ x i. inside x (within-filter (is_first f r X) X x i)) in
      let e = count_in-sum f r (firsts f r X) ok in
      let l : count_in f r (firsts f r X) ≡ length (firsts f r X) = ap length whole in
      let le : sum_by (λ s. count_at f s (firsts f r X)) r.seats ≤ sum_by (λ s. s.target) r.seats =
      sums_le (λ s. count_at f s (firsts f r X)) (λ s. s.target) r.seats no_seat (λ k lt. let c = firsts_count k lt in omega arith) in
      let cap = ok.cap in
      omega arith
