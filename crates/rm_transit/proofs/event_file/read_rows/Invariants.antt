use Rattle.rm_transit.proofs.EventRows.{AreRead}
use Rattle.rm_transit.proofs.event_file.read_rows.Given as goal

abbrev pub invariant-loop-i : goal.invariant-loop-i
invariant-loop-i l = AreRead l.case l.table l.i l.events.items
