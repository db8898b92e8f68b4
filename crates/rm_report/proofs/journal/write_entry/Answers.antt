use Rattle.rm_report.proofs.journal.write_entry.Goals as goal

pub returns : goal.returns
returns c =
    rw (c.as_bytes.ensures.value, c.name_of_doctor-doctor.ensures, c.as_bytes-2.ensures.value, c.name_of_hospital-hospital.ensures, c.as_bytes-3.ensures.value, c.outcome_word-answer.ensures, c.as_bytes-4.ensures.value, c.out_doctor-out_doctor.ensures, c.as_bytes-5.ensures.value, c.out_hospital-out_hospital.ensures)
    at c.write_row.ensures
