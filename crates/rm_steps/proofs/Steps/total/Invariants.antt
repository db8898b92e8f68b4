use Rattle.rm_steps.proofs.Sums.{IsSummed}
use Rattle.rm_steps.proofs.Steps.total.Given as goal

abbrev pub invariant-loop-run : goal.invariant-loop-run
invariant-loop-run l = IsSummed l.run-items l.k l.run-index l.left l.sum
