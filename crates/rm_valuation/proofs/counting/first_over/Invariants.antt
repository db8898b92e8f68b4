use Rattle.std.proofs.Common.{ℕ, ◌<◌, ◌≤◌, get_or}
use Rattle.rm_market.specs.Board.{cap_of, node_at}
use Rattle.rm_valuation.proofs.counting.first_over.Given as goal

abbrev pub invariant-loop-node : goal.invariant-loop-node
invariant-loop-node l = (k : ℕ) → k < l.node → get_or l.counts k 0 ≤ cap_of (node_at l.board k)
