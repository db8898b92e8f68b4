use Rattle.std.proofs.Common.{◌≡◌, ◌<◌, ℕ, get_or, false, []}
use Rattle.rm_market.specs.Board.{crosses}
use Rattle.rm_laminar.specs.Chains.{chain_lists}
use Rattle.rm_laminar.proofs.chains.first_crossing.Given as goal

abbrev pub invariant-loop-a : goal.invariant-loop-a
invariant-loop-a l = (k : ℕ) → k < l.a → crosses (get_or (chain_lists l.earlier) k []) l.group ≡ false
