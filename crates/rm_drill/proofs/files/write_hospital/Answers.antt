use Rattle.rm_drill.proofs.files.write_hospital.Goals as goal

pub returns : goal.returns
returns c =
    rw (c.as_bytes.ensures.value, c.in_ok-print_hospital.ensures, c.as_bytes-2.ensures.value, c.in_ok-print_prefecture.ensures, c.as_bytes-3.ensures.value, c.in_ok-print_number.ensures, c.as_bytes-4.ensures.value, c.in_ok-print_number-2.ensures)
    at c.write_row.ensures
