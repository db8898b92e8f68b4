use Rattle.rm_report.proofs.report.write_printed.Goals as goal

pub returns : goal.returns
returns c =
    rw (c.as_bytes.ensures.value, c.as_bytes-2.ensures.value, c.as_bytes-3.ensures.value, c.as_bytes-4.ensures.value, c.as_bytes-5.ensures.value, c.as_bytes-6.ensures.value, c.as_bytes-7.ensures.value, c.as_bytes-8.ensures.value)
    at c.write_row.ensures
