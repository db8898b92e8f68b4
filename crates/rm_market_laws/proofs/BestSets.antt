-- The best subsets, and a function that takes them: both have the same stable and optimal sets.
use Rattle.std.proofs.Common.{◌≡◌, ℕ, ◌<◌, List, length, subst}
use Rattle.rm_sets.specs.Sets.{IsSetBelow, with_one}
use Rattle.rm_sets.proofs.Members.{IsSetBelow-with_one}
use Rattle.rm_market.specs.Best.{Values, IsBest}
use Rattle.rm_market.specs.Stable.{Wishes, IsStable, IsOptimal, IsOnlyOptimal, Takes}
use Rattle.rm_valuation_laws.proofs.Best.{best_unique}

module _ (n : ℕ) (v : Values) (w : Wishes) (long : length w.owners ≡ n) (C : List ℕ → List ℕ) (best : (X : List ℕ) → IsSetBelow n X → IsBest v X (C X)) where
  below : (X : List ℕ) → IsSetBelow (length w.owners) X → IsSetBelow n X
  below X h = subst (λ k. IsSetBelow k X) long h

  takes : (X S : List ℕ) → IsSetBelow (length w.owners) X → IsBest v X S → C X ≡ S
  takes X S x s = best_unique n v X (C X) S (below X x) (best X (below X x)) s

  pub taken : (X S : List ℕ) → IsSetBelow (length w.owners) X → C X ≡ S → IsBest v X S
  taken X S x e = subst (IsBest v X) e (best X (below X x))

  pub stable_takes : (S : List ℕ) → IsStable (IsBest v) w S → IsStable (Takes C) w S
  stable_takes S s = record {
    placement = s.placement;
    kept = takes S S s.placement.set s.kept;
    unblocked = λ x lt h. takes (with_one S x) S (IsSetBelow-with_one (length w.owners) S x s.placement.set lt) (s.unblocked x lt h);
  }

  pub stable_best : (S : List ℕ) → IsStable (Takes C) w S → IsStable (IsBest v) w S
  stable_best S s = record {
    placement = s.placement;
    kept = taken S S s.placement.set s.kept;
    unblocked = λ x lt h. taken (with_one S x) S (IsSetBelow-with_one (length w.owners) S x s.placement.set lt) (s.unblocked x lt h);
  }

  pub optimal_takes : (S : List ℕ) → IsOptimal (IsBest v) w S → IsOptimal (Takes C) w S
  optimal_takes S o = record { stable = stable_takes S o.stable; best_for_all = λ T d t lt. o.best_for_all T d (stable_best T t) lt }

  pub optimal_best : (S : List ℕ) → IsOptimal (Takes C) w S → IsOptimal (IsBest v) w S
  optimal_best S o = record { stable = stable_best S o.stable; best_for_all = λ T d t lt. o.best_for_all T d (stable_takes T t) lt }

  pub only_optimal_best : (S : List ℕ) → IsOnlyOptimal (Takes C) w S → IsOnlyOptimal (IsBest v) w S
  only_optimal_best S o = record { optimal = optimal_best S o.optimal; only = λ T t. o.only T (optimal_takes T t) }
