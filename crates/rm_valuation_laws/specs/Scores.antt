-- Worth and tie order as one number, and sets that single changes do not improve.
use Rattle.std.specs.Prelude.{◌≡◌, ℕ, ◌≤◌, Bool, true, false, ◌==◌, List, [], ◌∷◌, ℤ, pos, ◌+ℤ◌, ◌≤ℤ◌, IsTrue, IsFalse}
use Rattle.std.specs.List.{position_or_len}
use Rattle.rm_sets.specs.Sets.{has, IsIn, IsSet, IsWithin, with_one, without}
use Rattle.rm_valuation_laws.specs.Choice.{IsTopSoFar}
use Rattle.rm_market.specs.Best.{Values, is_better, swapped}

-- S is feasible, and no single addition within X, removal or swap within X makes it better
pub record IsUnimproved (v : Values) (X S : List ℕ) : Type 0 where
  pub set : IsSet S
  pub within : IsWithin S X
  pub feasible : IsTrue (v.feasible S)
  pub add : (x : ℕ) → IsIn x X → ¬ IsIn x S → IsFalse (is_better v (with_one S x) S)
  pub remove : (z : ℕ) → IsIn z S → IsFalse (is_better v (without S z) S)
  pub swap : (x z : ℕ) → IsIn x X → ¬ IsIn x S → IsIn z S → IsFalse (is_better v (swapped S x z) S)

-- ---- worth and tie order as one number

abbrev pub bit : Bool → ℤ
bit true = pos 1
bit false = pos 0

-- twice the number so far, and one more where the next contract is in S
abbrev pub score_from : ℤ → List ℕ → List ℕ → ℤ
score_from a [] S = a
score_from a (x ∷ ties) S = score_from ((a +ℤ a) +ℤ bit (has x S)) ties S

abbrev pub score : Values → List ℕ → ℤ
score v S = score_from (v.worth S) v.ties S

-- the place of x in a list, from 0
abbrev pub place : List ℕ → ℕ → ℕ
place ties x = position_or_len (λ y. y == x) ties

-- D is a feasible subset of H with x, and none of H, H with x, and the swaps of x for a contract of H is better
pub record IsOfferAnswer (v : Values) (H : List ℕ) (x : ℕ) (D : List ℕ) : Type 0 where
  pub set : IsSet D
  pub within : IsWithin D (with_one H x)
  pub feasible : IsTrue (v.feasible D)
  pub not_refused : IsFalse (is_better v H D)
  pub not_added : IsFalse (is_better v (with_one H x) D)
  pub not_swapped : (z : ℕ) → IsIn z H → IsFalse (is_better v (swapped H x z) D)

-- x is the addition to S within X of greatest worth, and of equal worth the first in tie order
pub record IsWorthiest (v : Values) (X S : List ℕ) (x : ℕ) : Type 0 where
  pub member : IsIn x X
  pub outside : ¬ IsIn x S
  pub passes : IsTrue (v.feasible (with_one S x))
  pub most : (y : ℕ) → IsIn y X → ¬ IsIn y S → IsTrue (v.feasible (with_one S y)) →
      v.worth (with_one S y) ≤ℤ v.worth (with_one S x)
  pub first : (y : ℕ) → IsIn y X → ¬ IsIn y S → IsTrue (v.feasible (with_one S y)) →
      v.worth (with_one S y) ≡ v.worth (with_one S x) → place v.ties x ≤ place v.ties y

-- S is best among the feasible subsets of X that are no larger
abbrev pub IsBestSoFar : ℕ → Values → List ℕ → List ℕ → Type 0
IsBestSoFar n v X S = IsTopSoFar n v.feasible (score v) X S
