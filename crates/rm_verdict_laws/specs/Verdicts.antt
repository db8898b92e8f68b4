-- What each verdict on a choice says.
use Rattle.std.specs.Prelude.{◌≡◌, ◌⊎◌, ℕ, ◌<◌, ◌≤◌, Bool, List, length, IsTrue, IsFalse, nat_lt}
use Rattle.rm_sets.specs.Sets.{IsIn, IsLeast, with_one, without, minus, below}
use Rattle.rm_market.specs.Board.{Board, cap_of, is_feasible, node_at, count_at}
use Rattle.rm_market.specs.Best.{Values, values_of, is_better, swapped, IsBest}
use Rattle.rm_market.specs.declared.Verdict.{Verdict}
use Rattle.rm_market.specs.declared.Verdict.TheVariants as verdicts

-- S has more contracts at node k than its cap
abbrev pub is_over : Board → List ℕ → ℕ → Bool
is_over b S k = nat_lt (cap_of (node_at b k)) (count_at b S k)

-- k is the least node over its cap
abbrev pub IsLeastOver : Board → List ℕ → ℕ → Type 0
IsLeastOver b S k = IsLeast (is_over b S) (below (length b.nodes)) k

-- no removal from S gives a better set
abbrev pub NoRemoval : Values → List ℕ → Type 0
NoRemoval v S = (z : ℕ) → IsIn z S → IsFalse (is_better v (without S z) S)

-- no addition of a contract of X to S gives a better set
abbrev pub NoAddition : Values → List ℕ → List ℕ → Type 0
NoAddition v X S = (x : ℕ) → IsIn x X → ¬ IsIn x S → IsFalse (is_better v (with_one S x) S)

-- no contract of X in the place of one of S gives a better set
abbrev pub NoSwap : Values → List ℕ → List ℕ → Type 0
NoSwap v X S = (x z : ℕ) → IsIn x X → ¬ IsIn x S → IsIn z S → IsFalse (is_better v (swapped S x z) S)

-- z is the least contract whose removal from S gives a better set
abbrev pub IsLeastRemoval : Values → List ℕ → ℕ → Type 0
IsLeastRemoval v S z = IsLeast (λ y. is_better v (without S y) S) S z

-- x is the least contract of X whose addition to S gives a better set
abbrev pub IsLeastAddition : Values → List ℕ → List ℕ → ℕ → Type 0
IsLeastAddition v X S x = IsLeast (λ y. is_better v (with_one S y) S) (minus X S) x

-- x of X in place of z of S gives a better set, with the least x, and then the least z
pub record IsLeastSwap (v : Values) (X S : List ℕ) (x z : ℕ) : Type 0 where
  pub offered : IsIn x X
  pub outside : ¬ IsIn x S
  pub inside : IsIn z S
  pub better : IsTrue (is_better v (swapped S x z) S)
  pub least : (y w : ℕ) → IsIn y X → ¬ IsIn y S → IsIn w S → IsTrue (is_better v (swapped S y w) S) → (x < y) ⊎ ((x ≡ y) × (z ≤ w))

-- what a verdict says of the chosen subset S of X
abbrev pub IsVerdict : Board → List ℕ → List ℕ → Verdict → Type 0
IsVerdict b X S verdicts.Best = IsBest (values_of b) X S
IsVerdict b X S (verdicts.OverCap k) = IsLeastOver b S k
IsVerdict b X S (verdicts.Remove z) = IsTrue (is_feasible b S) × IsLeastRemoval (values_of b) S z
IsVerdict b X S (verdicts.Add x) = IsTrue (is_feasible b S) × NoRemoval (values_of b) S × IsLeastAddition (values_of b) X S x
IsVerdict b X S (verdicts.Swap x z) = IsTrue (is_feasible b S) × NoRemoval (values_of b) S × NoAddition (values_of b) X S × IsLeastSwap (values_of b) X S x z
