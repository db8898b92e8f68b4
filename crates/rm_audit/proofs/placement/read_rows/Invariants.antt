use Rattle.rm_audit.proofs.PlacedRows.{AreRowsRead}
use Rattle.rm_audit.proofs.placement.read_rows.Given as goal

abbrev pub invariant-loop-i : goal.invariant-loop-i
invariant-loop-i l = AreRowsRead l.case l.table l.i l.rows.items l.places
