use Rattle.std.proofs.Common.{◌≡◌, length}
use Rattle.rm_valuation.proofs.tests.counts_of.Given as goal

abbrev pub invariant-loop-x : goal.invariant-loop-x
invariant-loop-x l = length l.counts.items ≡ length l.board.nodes
