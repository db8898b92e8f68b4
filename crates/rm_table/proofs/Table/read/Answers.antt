use Rattle.std.proofs.lemmas.Result.{err_from_is_err_and}
use Rattle.rm_table.specs.Rows.{rows_of}
use Rattle.rm_table.proofs.AtLemmas.{at-stops}
use Rattle.rm_table.proofs.CutLemmas.{none-kept, one-kept, all-kept}
use Rattle.rm_table.proofs.Table.read.Goals as goal

pub rows-init : goal.rows-init
rows-init c = rw (c.new-ends.ensures.items, c.in-Ok.ensures, c.open-rows.ensures) (none-kept (rows_of c.args.bytes.now))

pub returns-in_err-next : goal.returns-in_err-next
returns-in_err-next c =
    let p = err_from_is_err_and c.from_residual.result c.from_residual.ensures.1 in
    rw (p.1, p.2) (at-stops (rows_of c.args.bytes.now) c.rows.rows c.next.new.self c.in_err-next.field-0.0 c.rows.invariant.at c.in_err-next.ensures)

pub rows-preserved : goal.rows-preserved
rows-preserved c =
    one-kept (rows_of c.args.bytes.now) c.rows.ends.items c.rows.cells c.rows.rows c.next.new.self c.push_row.new.ends.items c.push_row.new.cells c.rows.invariant
    (rw c.if-branch.true at c.in_ok-next.ensures) c.in-Ok-push_row.ensures.packed c.in-Ok-push_row.ensures.rows

pub returns : goal.returns
returns c = all-kept (rows_of c.args.bytes.now) c.rows.ends.items c.rows.cells c.rows.rows c.rows.invariant (rw c.if-branch.false at c.in_ok-next.ensures).0
