use Rattle.std.proofs.Common.{◌≡◌, length}
use Rattle.rm_greedy.proofs.Reached.{AreHeadsOf}
use Rattle.rm_greedy.proofs.heads.write_heads.Given as goal

abbrev pub invariant-loop-i : goal.invariant-loop-i
invariant-loop-i l = (length l.heads ≡ length l.initial.heads) × AreHeadsOf l.board l.offered l.heads l.i l.count
