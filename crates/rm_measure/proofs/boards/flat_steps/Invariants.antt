use Rattle.std.proofs.Common.{◌≡◌, length}
use Rattle.rm_measure.proofs.boards.flat_steps.Given as goal

abbrev pub invariant-loop-h : goal.invariant-loop-h
invariant-loop-h l = length l.steps.items ≡ l.h
