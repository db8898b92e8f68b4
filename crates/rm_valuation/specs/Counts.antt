-- Counts of contracts by node, and what one contract more changes.
use Rattle.std.specs.Prelude.{◌≡◌, ℕ, List, map, ℤ, ◌+ℤ◌, Option, Some, None, IsTrue, IsFalse}
use Rattle.rm_sets.specs.Sets.{with_one}
use Rattle.rm_market.specs.Board.{Board, IsBoard, count, is_feasible, worth}

-- the board of a market, with some number of doctors
abbrev pub IsMarketBoard : Board → Type 0
IsMarketBoard b = (doctors : ℕ) × IsBoard doctors b

-- how many contracts of S each node has, in the order of the nodes
abbrev pub AreCounts : Board → List ℕ → List ℕ → Type 0
AreCounts b S counts = map (λ n. count b n.leaves S) b.nodes ≡ counts

-- the change of worth by adding x to S, if S with x is feasible
abbrev pub IsGain : Board → List ℕ → ℕ → Option ℤ → Type 0
IsGain b S x (Some change) = IsTrue (is_feasible b (with_one S x)) × (worth b (with_one S x) ≡ worth b S +ℤ change)
IsGain b S x None = IsFalse (is_feasible b (with_one S x))
