use Rattle.rm_transit.proofs.text.write_closing.Goals as goal

pub returns-then-closed : goal.returns-then-closed
returns-then-closed c = rw c.if-closed.true c.write_row.ensures

pub returns-else-closed : goal.returns-else-closed
returns-else-closed c = rw c.if-closed.false c.write_row-else-closed.ensures
