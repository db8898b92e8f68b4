use Rattle.rm_report.proofs.finding.write_node.Goals as goal

pub returns : goal.returns
returns c = rw (c.as_bytes.ensures.value, c.in_ok-print_node.ensures) at c.write_row.ensures
