use Rattle.rm_steps.proofs.Places.{IsLeft}
use Rattle.rm_steps.proofs.Steps.step.Given as goal

abbrev pub invariant-loop-run : goal.invariant-loop-run
invariant-loop-run l = IsLeft l.run-items l.k l.run-index l.left
