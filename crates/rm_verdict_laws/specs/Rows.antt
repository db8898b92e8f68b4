-- What the rows of a certificate say.
use Rattle.std.specs.Prelude.{◌≡◌, ◌≢◌, ◌⊎◌, ℕ, ◌<◌, true, false, List, [], ◌∷◌, length, ◌-ℤ◌, Option, Some, None, IsTrue, IsFalse}
use Rattle.rm_sets.specs.Sets.{IsIn, with_one, without}
use Rattle.rm_market.specs.Board.{Board, leaf_of, cap_of, is_feasible, worth, node_at, count_at, sets_of}
use Rattle.rm_market.specs.Best.{Values, values_of, is_better, swapped}
use Rattle.rm_market.specs.Tree.{is_inside}
use Rattle.rm_market.specs.declared.CertRow.{CertRow}
use Rattle.rm_market.specs.declared.SwapRow.{SwapRow}

-- node k has the contract x, and S has as many contracts there as its cap
pub record IsFullNode (b : Board) (S : List ℕ) (x k : ℕ) : Type 0 where
  pub node : k < length b.nodes
  pub inside : IsIn (leaf_of b x) (node_at b k).leaves
  pub full : count_at b S k ≡ cap_of (node_at b k)

-- k is the innermost node of x that is at its cap: it lies inside each other such node
pub record IsInnermostFull (b : Board) (S : List ℕ) (x k : ℕ) : Type 0 where
  pub node : IsFullNode b S x k
  pub innermost : (j : ℕ) → IsFullNode b S x j → j ≢ k → IsTrue (is_inside (sets_of b) k j)

-- with x in place of the contract z of S, S stays feasible and is better than with x in place of any other one
pub record IsBestSwap (v : Values) (S : List ℕ) (x z : ℕ) : Type 0 where
  pub member : IsIn z S
  pub feasible : IsTrue (v.feasible (swapped S x z))
  pub better : (y : ℕ) → IsIn y S → y ≢ z → IsTrue (is_better v (swapped S x z) (swapped S x y))

-- the swap of a refused contract x: the best one and its change of worth, or none where no swap is feasible
abbrev pub IsSwapCell : Values → List ℕ → ℕ → Option SwapRow → Type 0
IsSwapCell v S x None = (z : ℕ) → IsIn z S → IsFalse (v.feasible (swapped S x z))
IsSwapCell v S x (Some row) = IsBestSwap v S x row.out × (row.change ≡ (v.worth (swapped S x row.out) -ℤ v.worth S))

-- x is in S: the change is what S loses without it, and the other cells are empty
pub record IsKeptRow (b : Board) (S : List ℕ) (x : ℕ) (row : CertRow) : Type 0 where
  pub member : IsIn x S
  pub contract : row.contract ≡ x
  pub kept : row.kept ≡ true
  pub change : row.change ≡ Some (worth b S -ℤ worth b (without S x))
  pub full : row.full ≡ None
  pub swap : row.swap ≡ None

-- x isn't in S: the change is what S gains with it, where that is feasible, and else the innermost full node of x is given
pub record IsRefusedRow (b : Board) (S : List ℕ) (x : ℕ) (row : CertRow) : Type 0 where
  pub outside : ¬ IsIn x S
  pub contract : row.contract ≡ x
  pub kept : row.kept ≡ false
  pub fits : IsTrue (is_feasible b (with_one S x)) → (row.change ≡ Some (worth b (with_one S x) -ℤ worth b S)) × (row.full ≡ None)
  pub full : IsFalse (is_feasible b (with_one S x)) → (row.change ≡ None) × ((k : ℕ) × (row.full ≡ Some k) × IsInnermostFull b S x k)
  pub swap : IsSwapCell (values_of b) S x row.swap

-- one row for each offered contract, in the order of the offers
abbrev pub AreRowsOf : Board → List ℕ → List ℕ → List CertRow → Type 0
AreRowsOf b S [] [] = Unit {0}
AreRowsOf b S (x ∷ offers) (row ∷ rows) = (IsKeptRow b S x row ⊎ IsRefusedRow b S x row) × AreRowsOf b S offers rows
AreRowsOf b S _ _ = ⊥
