use Rattle.rm_journal.proofs.Read.{AreRead}
use Rattle.rm_journal.proofs.reading.read_rows.Given as goal

abbrev pub invariant-loop-i : goal.invariant-loop-i
invariant-loop-i l = AreRead l.case l.table l.i l.entries.items
