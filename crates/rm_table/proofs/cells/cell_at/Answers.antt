use Rattle.std.proofs.Common.{sym}
use Rattle.csv.specs.Records.{fields_of}
use Rattle.rm_table.proofs.CellLemmas.{cell-is}
use Rattle.csv.proofs.RecordFacts.{field-there}
use Rattle.rm_table.proofs.cells.cell_at.Goals as goal

pub unreachable-requires : goal.unreachable-requires
unreachable-requires c =
    let found = rw c.in-None.is at c.get.ensures.value in
    field-there (fields_of c.args.fields.now) c.args.i c.requires (sym found)

pub returns : goal.returns
returns c = cell-is (fields_of c.args.fields.now) c.args.i c.in-Some.field.now c.cell.result.now c.requires (rw c.in-Some.is at c.get.ensures.value) c.cell.ensures
