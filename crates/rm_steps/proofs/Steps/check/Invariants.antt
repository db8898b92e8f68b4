use Rattle.rm_steps.proofs.Checked.{AreChecked}
use Rattle.rm_steps.proofs.Steps.check.Given as goal

abbrev pub invariant-loop-i : goal.invariant-loop-i
invariant-loop-i l = AreChecked l.runs l.i l.held
