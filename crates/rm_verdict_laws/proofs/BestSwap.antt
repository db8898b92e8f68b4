-- The search over a set's contracts finds the one in whose place a refused contract is best.
use Rattle.std.proofs.Common.{◌≡◌, ◌⊎◌, ℕ, ◌<◌, List, [], ◌∷◌, true, false, Some, None, ◌≤ℤ◌, ◌<ℤ◌, refl, sym, ap, ◌∙◌, subst, inl, inr, ⊎_elim, arith}
use Rattle.std.proofs.lemmas.Int.{ints}
use Rattle.std.proofs.lemmas.Bool.{cases_Bool}
use Rattle.std.specs.Prelude.{◌≢◌, fold, filter, option_map}
use Rattle.rm_sets.specs.Sets.{has, IsIn, IsSetBelow, without}
use Rattle.rm_sets.proofs.Sets.{IsIn-here, IsIn-later, IsIn-cases, not_both}
use Rattle.rm_sets.proofs.Members.{not_in_nil, not_in_without, IsIn-filter, IsIn-from_filter, IsSetBelow-with_one, IsSetBelow-without}
use Rattle.rm_market.specs.Best.{Values, is_better, swapped, IsValuation}
use Rattle.rm_market.specs.Certificate.{better_place, first_or_better, best_swap, swap_row}
use Rattle.rm_valuation_laws.specs.Scores.{score}
use Rattle.rm_valuation_laws.proofs.Moves.{with_other, without_other, apart}
use Rattle.rm_valuation_laws.proofs.Score.{cases_int, better_from_higher, higher_from_better, better_than_infeasible, scores_differ}
use Rattle.rm_verdict_laws.specs.Rows.{IsBestSwap, IsSwapCell}

-- ---- the search over swaps that are all feasible

-- x in place of y makes S no better than x in place of r, for each y of L
record IsHighest (v : Values) (S : List ℕ) (x : ℕ) (L : List ℕ) (r : ℕ) : Type 0 where
  member : IsIn r L
  high : (y : ℕ) → IsIn y L → score v (swapped S x y) ≤ℤ score v (swapped S x r)

abbrev AllFit : Values → List ℕ → ℕ → List ℕ → Type 0
AllFit v S x L = (y : ℕ) → IsIn y L → v.feasible (swapped S x y) ≡ true

abbrev Finds : Values → List ℕ → ℕ → List ℕ → ℕ → Type 0
Finds v S x L z = (r : ℕ) × (fold (first_or_better v S x) (Some z) L ≡ Some r) × IsHighest v S x (z ∷ L) r

pub not_higher : (v : Values) (S T : List ℕ) → v.feasible S ≡ true → is_better v S T ≡ false → score v S ≤ℤ score v T
not_higher v S T f worse =
    ⊎_elim
    (λ lt. omega (arith, ints))
    (λ rest. ⊎_elim (λ e. omega (arith, ints)) (λ gt. absurd (not_both (is_better v S T) (better_from_higher v S T f gt) worse)) rest)
    (cases_int (score v S) (score v T))

go_on : (v : Values) (S : List ℕ) (x z y w : ℕ) (L : List ℕ) → better_place v S x z y ≡ w → (w ≡ z) ⊎ (w ≡ y) →
    score v (swapped S x z) ≤ℤ score v (swapped S x w) → score v (swapped S x y) ≤ℤ score v (swapped S x w) → Finds v S x L w → Finds v S x (y ∷ L) z
go_on v S x z y w L e one lz ly h = (
  h.0,
  rw e h.1,
  record {
    member = ⊎_elim
        (λ same. subst (λ u. IsIn u (z ∷ (y ∷ L))) (sym same) (⊎_elim
        (λ ez. subst (λ u. IsIn u (z ∷ (y ∷ L))) (sym ez) (IsIn-here z (y ∷ L)))
        (λ ey. subst (λ u. IsIn u (z ∷ (y ∷ L))) (sym ey) (IsIn-later y z (y ∷ L) (IsIn-here y L)))
        one))
        (λ later. IsIn-later h.0 z (y ∷ L) (IsIn-later h.0 y L later))
        (IsIn-cases h.0 w L h.2.member);
    high = λ u i.
        let top = h.2.high w (IsIn-here w L) in
        ⊎_elim
        (λ ez. subst (λ t. score v (swapped S x t) ≤ℤ score v (swapped S x h.0)) (sym ez) (omega (arith, ints)))
        (λ j. ⊎_elim
        (λ ey. subst (λ t. score v (swapped S x t) ≤ℤ score v (swapped S x h.0)) (sym ey) (omega (arith, ints)))
        (λ k. h.2.high u (IsIn-later u w L k))
        (IsIn-cases u y L j))
        (IsIn-cases u z (y ∷ L) i);
  },
)

finds : (v : Values) (S : List ℕ) (x : ℕ) (L : List ℕ) (z : ℕ) → v.feasible (swapped S x z) ≡ true → AllFit v S x L → Finds v S x L z
finds v S x [] z fz fit = (
  z,
  refl,
  record {
    member = IsIn-here z [];
    high = λ y i. ⊎_elim (λ e. let same : score v (swapped S x y) ≡ score v (swapped S x z) = ap (λ t. score v (swapped S x t)) e in omega (arith, ints)) (λ j. absurd (not_in_nil y j)) (IsIn-cases y z [] i);
  },
)
finds v S x (y ∷ L) z fz fit =
    let fy = fit y (IsIn-here y L) in
    let rest : AllFit v S x L = λ w i. fit w (IsIn-later w y L i) in
    ⊎_elim
    (λ t.
    let lt : score v (swapped S x z) <ℤ score v (swapped S x y) = higher_from_better v (swapped S x y) (swapped S x z) fz t in
    go_on v S x z y y L (rw t refl) (inr refl) (omega (arith, ints)) (omega (arith, ints)) (finds v S x L y fy rest))
    (λ f.
    let le : score v (swapped S x y) ≤ℤ score v (swapped S x z) = not_higher v (swapped S x y) (swapped S x z) fy f in
    go_on v S x z y z L (rw f refl) (inl refl) (omega (arith, ints)) le (finds v S x L z fz rest))
    (cases_Bool (is_better v (swapped S x y) (swapped S x z)))

-- ---- different places give different sets

swaps_differ : (S : List ℕ) (x y z : ℕ) → has x S ≡ false → IsIn y S → IsIn z S → y ≢ z → swapped S x y ≡ swapped S x z → ⊥
swaps_differ S x y z out iy iz ne e =
    let nyx : y ≡ x → ⊥ = apart S y x iy out in
    let gone : has y (swapped S x y) ≡ false = with_other (without S y) x y nyx ∙ not_in_without S y in
    let there : has y (swapped S x z) ≡ true = with_other (without S z) x y nyx ∙ (without_other S z y ne ∙ iy) in
    not_both (has y (swapped S x z)) there (ap (has y) (sym e) ∙ gone)

pub better_swap_from : (n : ℕ) (v : Values) (S : List ℕ) (x y z : ℕ) → IsValuation n v → IsSetBelow n S → x < n → has x S ≡ false → IsIn y S → IsIn z S → y ≢ z →
    v.feasible (swapped S x z) ≡ true → (v.feasible (swapped S x y) ≡ true → score v (swapped S x y) ≤ℤ score v (swapped S x z)) → is_better v (swapped S x z) (swapped S x y) ≡ true
better_swap_from n v S x y z laws sS lt out iy iz ne fz high =
    ⊎_elim
    (λ fy.
    let le = high fy in
    let below : (w : ℕ) → IsSetBelow n (swapped S x w) = λ w. IsSetBelow-with_one n (without S w) x (IsSetBelow-without n S w sS) lt in
    better_from_higher v (swapped S x z) (swapped S x y) fz
    (⊎_elim
    (λ less. less)
    (λ rest. ⊎_elim
    (λ e. absurd (swaps_differ S x y z out iy iz ne
    (scores_differ n v laws.ties_all (swapped S x y) (swapped S x z) (record { is_set = below y; passes = fy }) (record { is_set = below z; passes = fz }) e)))
    (λ gt. absurd (omega (arith, ints)))
    rest)
    (cases_int (score v (swapped S x y)) (score v (swapped S x z)))))
    (λ cant. better_than_infeasible v (swapped S x z) (swapped S x y) fz cant)
    (cases_Bool (v.feasible (swapped S x y)))

-- ---- the cell

abbrev fitting : Values → List ℕ → ℕ → List ℕ
fitting v S x = filter (λ z. v.feasible (swapped S x z)) S

fits_all : (v : Values) (S : List ℕ) (x : ℕ) → AllFit v S x (fitting v S x)
fits_all v S x y i = (IsIn-from_filter (λ z. v.feasible (swapped S x z)) S y i).1

best_from_highest : (n : ℕ) (v : Values) (S : List ℕ) (x r : ℕ) → IsValuation n v → IsSetBelow n S → x < n → has x S ≡ false → IsHighest v S x (fitting v S x) r → IsBestSwap v S x r
best_from_highest n v S x r laws sS lt out h =
    let parts = IsIn-from_filter (λ z. v.feasible (swapped S x z)) S r h.member in
    record {
      member = parts.0;
      feasible = parts.1;
      better = λ y i ne. better_swap_from n v S x y r laws sS lt out i parts.0 ne parts.1 (λ fy. h.high y (IsIn-filter (λ z. v.feasible (swapped S x z)) S y i fy));
    }

search_list : (v : Values) (S : List ℕ) (x : ℕ) (L : List ℕ) → AllFit v S x L → ((L ≡ []) × (fold (first_or_better v S x) None L ≡ None)) ⊎ ((r : ℕ) × (fold (first_or_better v S x) None L ≡ Some r) × IsHighest v S x L r)
search_list v S x [] fit = inl (refl, refl)
search_list v S x (z ∷ L) fit = inr (finds v S x L z (fit z (IsIn-here z L)) (λ y i. fit y (IsIn-later y z L i)))

none_fits : (v : Values) (S : List ℕ) (x z : ℕ) → fitting v S x ≡ [] → IsIn z S → v.feasible (swapped S x z) ≡ false
none_fits v S x z e i =
    ⊎_elim
    (λ f. absurd (not_in_nil z (subst (IsIn z) e (IsIn-filter (λ w. v.feasible (swapped S x w)) S z i f))))
    (λ f. f)
    (cases_Bool (v.feasible (swapped S x z)))

pub swap_cell : (n : ℕ) (v : Values) (S : List ℕ) (x : ℕ) → IsValuation n v → IsSetBelow n S → x < n → has x S ≡ false → IsSwapCell v S x (option_map (swap_row v S x) (best_swap v S x))
unfolding best_swap
swap_cell n v S x laws sS lt out =
    ⊎_elim
    (λ none. subst (λ o. IsSwapCell v S x (option_map (swap_row v S x) o)) (sym none.1) (λ z i. none_fits v S x z none.0 i))
    (λ r. subst (λ o. IsSwapCell v S x (option_map (swap_row v S x) o)) (sym r.1) (best_from_highest n v S x r.0 laws sS lt out r.2, refl))
    (search_list v S x (fitting v S x) (fits_all v S x))
