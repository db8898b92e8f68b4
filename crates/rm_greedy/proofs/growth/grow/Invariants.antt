use Rattle.std.proofs.Common.{◌≡◌, length}
use Rattle.rm_greedy.proofs.Steps.{IsGrowing}
use Rattle.rm_greedy.proofs.growth.grow.Given as goal

abbrev pub invariant-loop-i : goal.invariant-loop-i
invariant-loop-i l = (length l.marks ≡ length l.initial.marks) × IsGrowing l.board l.offered l.i l.heads l.counts l.marks
