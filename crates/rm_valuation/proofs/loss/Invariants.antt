use Rattle.rm_valuation.proofs.Sums.{IsSummed}
use Rattle.rm_valuation.proofs.Counted.{last_at}
use Rattle.rm_valuation.proofs.loss.Given as goal

abbrev pub invariant-loop-i : goal.invariant-loop-i
invariant-loop-i l = IsSummed (last_at l.board l.counts l.chain) l.i l.sum
