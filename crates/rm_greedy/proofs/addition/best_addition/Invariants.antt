use Rattle.rm_greedy.proofs.FirstOfHeads.{IsLooking}
use Rattle.rm_greedy.proofs.addition.best_addition.Given as goal

abbrev pub invariant-loop-i : goal.invariant-loop-i
invariant-loop-i l = IsLooking l.board l.offered l.initial.heads l.heads l.counts l.marks l.i l.best
