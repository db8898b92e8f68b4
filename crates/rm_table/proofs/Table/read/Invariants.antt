use Rattle.std.proofs.Common.{length}
use Rattle.rm_table.specs.Rows.{rows_of}
use Rattle.rm_table.proofs.CutLemmas.{AreKept}
use Rattle.rm_table.proofs.Table.read.Given as goal

abbrev pub invariant-rows : goal.invariant-rows
invariant-rows l = AreKept (rows_of l.bytes) l.ends.items l.cells l.rows

abbrev pub decreases-rows : goal.decreases-rows
decreases-rows l = length l.rows.coming
