use Rattle.rm_roster.proofs.RankRows.{AreRead}
use Rattle.rm_roster.proofs.ranks.read_rows.Given as goal

abbrev pub invariant-loop-i : goal.invariant-loop-i
invariant-loop-i l = AreRead l.hospitals l.doctors l.table l.i l.lists
