use Rattle.rm_report.proofs.journal.write_number.Goals as goal

pub returns : goal.returns
returns c = rw (c.as_bytes.ensures.value, c.in_ok-cell.ensures.ok) at c.write_row.ensures
