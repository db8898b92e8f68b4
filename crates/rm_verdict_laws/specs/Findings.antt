-- What each finding on a placement says.
use Rattle.std.specs.Prelude.{ℕ, ◌<◌, ◌≤◌, List, IsTrue}
use Rattle.rm_sets.specs.Sets.{with_one}
use Rattle.rm_market.specs.Board.{contract_count, is_feasible}
use Rattle.rm_market.specs.Best.{values_of}
use Rattle.rm_market.specs.Stable.{wants}
use Rattle.rm_market.specs.Market.{Market, wishes_of, Best, IsStableIn}
use Rattle.rm_market.specs.declared.Finding.{Finding}
use Rattle.rm_market.specs.declared.Finding.TheVariants as findings
use Rattle.rm_verdict_laws.specs.Verdicts.{IsLeastOver, IsLeastRemoval}

-- the contract x is wanted, and S isn't the best subset of S with x
pub record IsBlocking (m : Market) (S : List ℕ) (x : ℕ) : Type 0 where
  pub contract : x < contract_count m.board
  pub wanted : IsTrue (wants (wishes_of m) S x)
  pub unkept : ¬ Best m (with_one S x) S

-- and it is the least such contract
pub record IsLeastBlocking (m : Market) (S : List ℕ) (x : ℕ) : Type 0 where
  pub blocks : IsBlocking m S x
  pub least : (y : ℕ) → IsBlocking m S y → x ≤ y

-- what a finding says of a placement S: it is stable; or the least node over its cap; or S is feasible, but not the best subset of
-- itself, with the least contract whose removal is better; or it is that, with the least contract that blocks it
abbrev pub IsFinding : Market → List ℕ → Finding → Type 0
IsFinding m S findings.Stable = IsStableIn m S
IsFinding m S (findings.OverCap k) = IsLeastOver m.board S k
IsFinding m S (findings.Unwanted z) = IsTrue (is_feasible m.board S) × ¬ Best m S S × IsLeastRemoval (values_of m.board) S z
IsFinding m S (findings.Blocks x) = Best m S S × IsLeastBlocking m S x
