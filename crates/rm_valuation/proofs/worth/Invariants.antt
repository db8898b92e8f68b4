use Rattle.rm_valuation.proofs.Sums.{IsTotal}
use Rattle.rm_valuation.proofs.Counted.{total_at}
use Rattle.rm_valuation.proofs.worth.Given as goal

abbrev pub invariant-loop-node : goal.invariant-loop-node
invariant-loop-node l = IsTotal (total_at l.board l.counts) l.node l.sum
