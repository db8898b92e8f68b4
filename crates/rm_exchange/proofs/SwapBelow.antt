-- The best swap for a refused contract, one leaf after the other.
use Rattle.std.proofs.Common.{◌≡◌, ◌⊎◌, ℕ, ◌+◌, ◌<◌, ◌≤◌, List, Bool, true, false, count_by, ℤ, ◌-ℤ◌, ◌<ℤ◌, Option, Some, None, IsFalse, sym, ap, subst, inl, inr, ⊎_elim, arith, ◌∙◌}
use Rattle.std.specs.Prelude.{map, not, ◌&&◌}
use Rattle.std.proofs.lemmas.Int.{ints}
use Rattle.std.proofs.lemmas.Bool.{cases_Bool, cases_lt, cases_eq, lt-ltb}
use Rattle.rm_sets.specs.Sets.{has, IsIn, IsSet}
use Rattle.rm_sets.proofs.Sets.{not_both}
use Rattle.rm_market.specs.Board.{Board, leaf_of, cap_of, node_at, count_at, is_feasible, worth, int_sum}
use Rattle.rm_market.specs.Best.{Values, values_of, is_better, swapped}
use Rattle.rm_market.specs.declared.SwapRow.{SwapRow}
use Rattle.rm_valuation_laws.specs.Scores.{score, place}
use Rattle.rm_valuation_laws.specs.Changes.{test_at, in_node, on, last_step}
use Rattle.rm_valuation_laws.proofs.Score.{cases_int, higher_from_better, infeasible_not_better}
use Rattle.rm_valuation_laws.proofs.Leads.{score_by_worth, score_by_tie, leads_of_swaps, place_same}
use Rattle.rm_valuation_laws.proofs.Counts.{one}
use Rattle.rm_valuation_laws.proofs.Change.{count-swapped}
use Rattle.rm_valuation_laws.proofs.Cheapest.{step_decides}
use Rattle.rm_verdict_laws.proofs.Over.{cap_kept, feasible_from_kept}
use Rattle.rm_verdict_laws.proofs.BestSwap.{not_higher}
use Rattle.rm_exchange.specs.Counted.{IsChosen, IsSwapChange}
use Rattle.rm_exchange.specs.RowsBelow.{IsLastAt, IsSwapBelow, IsAhead}
use Rattle.rm_exchange.proofs.Changes.{laws_of, not_lower}

-- ---- two contracts at one leaf

same_counts : (b : Board) (S : List ℕ) (x y z : ℕ) → IsSet S → IsIn y S → IsIn z S → has x S ≡ false → leaf_of b y ≡ leaf_of b z → (k : ℕ) → count_at b (swapped S x y) k ≡ count_at b (swapped S x z) k
same_counts b S x y z s iy iz out e k =
    let ey = count-swapped (test_at b k) S y x s iy out in
    let ez = count-swapped (test_at b k) S z x s iz out in
    let same : test_at b k y ≡ test_at b k z = ap (λ l. has l (node_at b k).leaves) e in
    equal (count_at b (swapped S x y) k) (count_at b (swapped S x z) k) (test_at b k y) (test_at b k z) same ey ez
  where
    equal : (m n : ℕ) (p q : Bool) → p ≡ q → m + one p ≡ count_by (test_at b k) S + one (test_at b k x) → n + one q ≡ count_by (test_at b k) S + one (test_at b k x) → m ≡ n
    equal m n p q e f g = let h : one p ≡ one q = ap one e in omega (arith, f, g, h)

same_fit : (b : Board) (S : List ℕ) (x y z : ℕ) → IsSet S → IsIn y S → IsIn z S → has x S ≡ false → leaf_of b y ≡ leaf_of b z → is_feasible b (swapped S x z) ≡ false → is_feasible b (swapped S x y) ≡ false
same_fit b S x y z s iy iz out e unfit =
    ⊎_elim
    (λ f. absurd (not_both (is_feasible b (swapped S x z))
    (feasible_from_kept b (swapped S x z) (λ k lt. subst (λ n. n ≤ cap_of (node_at b k)) (same_counts b S x y z s iy iz out e k) (cap_kept b (swapped S x y) f k lt)))
    unfit))
    (λ f. f)
    (cases_Bool (is_feasible b (swapped S x y)))

-- where the last one at a leaf isn't better, none of the leaf is
none_at : (b : Board) (S : List ℕ) (x y z : ℕ) (D : List ℕ) → IsChosen b S → IsIn y S → IsIn z S → has x S ≡ false → leaf_of b y ≡ leaf_of b z → place b.ties y ≤ place b.ties z → is_feasible b D ≡ true →
    is_better (values_of b) (swapped S x z) D ≡ false → is_better (values_of b) (swapped S x y) D ≡ false
none_at b S x y z D c iy iz out e le f h =
    step_decides b S x z y D c.set.ascending iz iy out (((laws_of b S c).ties_all z).1 (c.set.below z iz)) c.feasible f
    (λ k lt t. ap (λ l. has l (node_at b k).leaves) (sym e))
    (inr (ap (λ l. int_sum (map (λ n. on (has l n.leaves && not (in_node b n x)) (last_step b S n)) b.nodes)) (sym e), le))
    h

-- ---- one leaf more

pub below_or_at : (m n : ℕ) → m < n + 1 → (m < n) ⊎ (m ≡ n)
below_or_at m n lt = ⊎_elim (λ l. inl l) (λ g. let e : m ≡ n = omega arith in inr e) (cases_lt m n)

itself : (v : Values) (S : List ℕ) → v.feasible S ≡ true → is_better v S S ≡ false
itself v S f = ⊎_elim (λ t. let up = higher_from_better v S S f t in absurd (omega (arith, ints, up))) (λ h. h) (cases_Bool (is_better v S S))

-- no contract at the leaf
pub nothing_at : (b : Board) (S : List ℕ) (leaf x : ℕ) (swap : Option SwapRow) → IsLastAt b S leaf None → IsSwapBelow b S leaf x swap → IsSwapBelow b S (leaf + 1) x swap
nothing_at b S leaf x None none h = λ y i lt. ⊎_elim (λ l. h y i l) (λ e. absurd (none y i e)) (below_or_at (leaf_of b y) leaf lt)
nothing_at b S leaf x (Some row) none h = (h.0, h.1, h.2, λ y i lt. ⊎_elim (λ l. h.3 y i l) (λ e. absurd (none y i e)) (below_or_at (leaf_of b y) leaf lt))

-- the swap for its last contract isn't feasible
pub unfit_at : (b : Board) (S : List ℕ) (leaf x z : ℕ) (swap : Option SwapRow) → IsChosen b S → IsLastAt b S leaf (Some z) → has x S ≡ false → IsSwapChange b S x z None → IsSwapBelow b S leaf x swap → IsSwapBelow b S (leaf + 1) x swap
unfit_at b S leaf x z None c last out unfit h = λ y i lt.
    ⊎_elim (λ l. h y i l) (λ e. same_fit b S x y z c.set.ascending i last.0 out (e ∙ sym last.1) unfit) (below_or_at (leaf_of b y) leaf lt)
unfit_at b S leaf x z (Some row) c last out unfit h = (
  h.0,
  h.1,
  h.2,
  λ y i lt. ⊎_elim
      (λ l. h.3 y i l)
      (λ e. infeasible_not_better (values_of b) (swapped S x y) (swapped S x row.out) (same_fit b S x y z c.set.ascending i last.0 out (e ∙ sym last.1) unfit))
      (below_or_at (leaf_of b y) leaf lt),
)

change_of : (b : Board) (S : List ℕ) (x z : ℕ) (change : ℤ) → IsSwapChange b S x z (Some change) → change ≡ worth b (swapped S x z) -ℤ worth b S
change_of b S x z change h = let e = h.1 in omega (arith, ints, e)

-- the swap for its last contract, where it is the first one that is feasible, or ahead of the best so far
new_best : (b : Board) (S : List ℕ) (leaf x z : ℕ) (change : ℤ) → IsChosen b S → IsLastAt b S leaf (Some z) → has x S ≡ false → IsSwapChange b S x z (Some change) →
    ((y : ℕ) → IsIn y S → leaf_of b y < leaf → IsFalse (is_better (values_of b) (swapped S x y) (swapped S x z))) → IsSwapBelow b S (leaf + 1) x (Some (record { out = z; change = change }))
new_best b S leaf x z change c last out fit h = (
  last.0,
  fit.0,
  change_of b S x z change fit,
  λ y i lt. ⊎_elim
      (λ l. h y i l)
      (λ e. none_at b S x y z (swapped S x z) c i last.0 out (e ∙ sym last.1) (last.2 y i e) fit.0 (itself (values_of b) (swapped S x z) fit.0))
      (below_or_at (leaf_of b y) leaf lt),
)

pub first_at : (b : Board) (S : List ℕ) (leaf x z : ℕ) (change : ℤ) → IsChosen b S → IsLastAt b S leaf (Some z) → has x S ≡ false → IsSwapChange b S x z (Some change) → IsSwapBelow b S leaf x None →
    IsSwapBelow b S (leaf + 1) x (Some (record { out = z; change = change }))
first_at b S leaf x z change c last out fit h = new_best b S leaf x z change c last out fit (λ y i l. infeasible_not_better (values_of b) (swapped S x y) (swapped S x z) (h y i l))

-- which of two swaps has the greater score
ahead_is_higher : (b : Board) (S : List ℕ) (x : ℕ) (next best : SwapRow) → IsIn next.out S → IsIn best.out S → has x S ≡ false → next.change ≡ worth b (swapped S x next.out) -ℤ worth b S → best.change ≡ worth b (swapped S x best.out) -ℤ worth b S →
    IsAhead b next best → score (values_of b) (swapped S x best.out) <ℤ score (values_of b) (swapped S x next.out)
ahead_is_higher b S x next best inext ibest out en eb ahead =
    let v = values_of b in
    ⊎_elim
    (λ more. score_by_worth v (swapped S x next.out) (swapped S x best.out) (omega (arith, ints, en, eb, more)))
    (λ tied.
    let same = tied.0 in
    score_by_tie v (swapped S x next.out) (swapped S x best.out) (omega (arith, ints, en, eb, same))
    (leads_of_swaps b.ties S x next.out best.out out inext ibest (λ e. let p = ap (place b.ties) e in let lt = tied.1 in absurd (omega (arith, p, lt)))
    ∙ lt-ltb (place b.ties best.out) (place b.ties next.out) tied.1))
    ahead

pub ahead_at : (b : Board) (S : List ℕ) (leaf x z : ℕ) (change : ℤ) (best : SwapRow) → IsChosen b S → IsLastAt b S leaf (Some z) → has x S ≡ false → IsSwapChange b S x z (Some change) → IsSwapBelow b S leaf x (Some best) →
    IsAhead b (record { out = z; change = change }) best → IsSwapBelow b S (leaf + 1) x (Some (record { out = z; change = change }))
ahead_at b S leaf x z change best c last out fit h ahead =
    let v = values_of b in
    let up = ahead_is_higher b S x (record { out = z; change = change }) best last.0 h.0 out (change_of b S x z change fit) h.2 ahead in
    new_best b S leaf x z change c last out fit (λ y i l. ⊎_elim
    (λ f. let le = not_higher v (swapped S x y) (swapped S x best.out) f (h.3 y i l) in not_lower v (swapped S x y) (swapped S x z) fit.0 (omega (arith, ints, le, up)))
    (λ f. infeasible_not_better v (swapped S x y) (swapped S x z) f)
    (cases_Bool (is_feasible b (swapped S x y))))

-- a swap that isn't ahead of the best so far
pub behind_at : (b : Board) (S : List ℕ) (leaf x z : ℕ) (change : ℤ) (best : SwapRow) → IsChosen b S → IsLastAt b S leaf (Some z) → has x S ≡ false → IsSwapChange b S x z (Some change) → IsSwapBelow b S leaf x (Some best) →
    ¬ IsAhead b (record { out = z; change = change }) best → IsSwapBelow b S (leaf + 1) x (Some best)
behind_at b S leaf x z change best c last out fit h behind =
    let v = values_of b in
    let other : is_better v (swapped S x z) (swapped S x best.out) ≡ false = ⊎_elim
    (λ e. subst (λ u. is_better v (swapped S x u) (swapped S x best.out) ≡ false) (sym e) (itself v (swapped S x best.out) h.1))
    (λ ne. not_lower v (swapped S x z) (swapped S x best.out) h.1
    (ahead_is_higher b S x best (record { out = z; change = change }) h.0 last.0 out h.2 (change_of b S x z change fit) (other_ahead change best.change (place b.ties z) (place b.ties best.out) behind
    (λ e. ne (place_same b.ties z best.out (((laws_of b S c).ties_all z).1 (c.set.below z last.0)) e)))))
    (cases_eq z best.out) in (
      h.0,
      h.1,
      h.2,
      λ y i lt. ⊎_elim
          (λ l. h.3 y i l)
          (λ e. none_at b S x y z (swapped S x best.out) c i last.0 out (e ∙ sym last.1) (last.2 y i e) h.1 other)
          (below_or_at (leaf_of b y) leaf lt),
    )
  where
    other_ahead : (p q : ℤ) (m n : ℕ) → ((q <ℤ p) ⊎ ((q ≡ p) × (n < m)) → ⊥) → (m ≡ n → ⊥) → (p <ℤ q) ⊎ ((p ≡ q) × (m < n))
    other_ahead p q m n not_it ne =
        ⊎_elim
        (λ less. inl less)
        (λ rest. ⊎_elim
        (λ e. ⊎_elim (λ lt. inr (e, lt)) (λ le. ⊎_elim (λ lt2. absurd (not_it (inr (sym e, lt2)))) (λ le2. absurd (ne (omega (arith, le, le2)))) (cases_lt n m)) (cases_lt m n))
        (λ more. absurd (not_it (inl more)))
        rest)
        (cases_int p q)
