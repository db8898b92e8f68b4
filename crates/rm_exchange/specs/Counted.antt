-- A chosen set with its counts at the nodes, whole or without one contract.
use Rattle.std.specs.Prelude.{◌≡◌, ℕ, List, ℤ, ◌+ℤ◌, ◌-ℤ◌, Option, Some, None, IsTrue, IsFalse}
use Rattle.rm_sets.specs.Sets.{IsIn, IsSetBelow, without}
use Rattle.rm_market.specs.Board.{Board, contract_count, is_feasible, worth}
use Rattle.rm_market.specs.Best.{swapped}
use Rattle.rm_valuation.specs.Counts.{IsMarketBoard, AreCounts}

-- a feasible set of contracts of a market's board
pub record IsChosen (b : Board) (S : List ℕ) : Type 0 where
  pub board : IsMarketBoard b
  pub set : IsSetBelow (contract_count b) S
  pub feasible : IsTrue (is_feasible b S)

-- the counts are those of S without its contract z, and this is what S loses without z
pub record IsTakenOut (b : Board) (S : List ℕ) (z : ℕ) (counts : List ℕ) (loss : ℤ) : Type 0 where
  pub chosen : IsChosen b S
  pub member : IsIn z S
  pub counted : AreCounts b (without S z) counts
  pub lost : loss ≡ worth b S -ℤ worth b (without S z)

-- the change of worth by x in the place of z, if that is feasible
abbrev pub IsSwapChange : Board → List ℕ → ℕ → ℕ → Option ℤ → Type 0
IsSwapChange b S x z (Some change) = IsTrue (is_feasible b (swapped S x z)) × (worth b (swapped S x z) ≡ worth b S +ℤ change)
IsSwapChange b S x z None = IsFalse (is_feasible b (swapped S x z))
