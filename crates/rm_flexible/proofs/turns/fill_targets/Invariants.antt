use Rattle.rm_flexible.proofs.Targets.{IsFilled}
use Rattle.rm_flexible.proofs.turns.fill_targets.Given as goal

abbrev pub invariant-loop-i : goal.invariant-loop-i
invariant-loop-i l = IsFilled l.region l.initial.counts l.i l.counts l.total
