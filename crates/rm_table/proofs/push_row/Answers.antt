use Rattle.rm_table.proofs.CutLemmas.{row-packed}
use Rattle.rm_table.proofs.push_row.Goals as goal

pub returns-clause-packed : goal.returns-clause-packed
returns-clause-packed c =
    let items = rw (c.in-Ok.ensures.1, c.len.ensures) at c.in_ok-push.ensures.items in
    (row-packed c.args.ends.now.items c.push.new.self.items c.args.cells.now c.push_cells.new.cells c.args.rows.now.row c.requires c.in_ok-push_cells.ensures items).0

pub returns-clause-rows : goal.returns-clause-rows
returns-clause-rows c =
    let items = rw (c.in-Ok.ensures.1, c.len.ensures) at c.in_ok-push.ensures.items in
    (row-packed c.args.ends.now.items c.push.new.self.items c.args.cells.now c.push_cells.new.cells c.args.rows.now.row c.requires c.in_ok-push_cells.ensures items).1
