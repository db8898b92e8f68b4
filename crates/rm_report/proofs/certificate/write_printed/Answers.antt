use Rattle.rm_report.proofs.certificate.write_printed.Goals as goal

pub returns : goal.returns
returns c =
    rw (c.as_bytes.ensures.value, c.name_of_doctor-doctor.ensures, c.as_bytes-2.ensures.value, c.name_of_hospital-hospital.ensures, c.as_bytes-3.ensures.value, c.answer_word-answer.ensures, c.as_bytes-4.ensures.value, c.requires.change, c.as_bytes-5.ensures.value, c.requires.full, c.as_bytes-6.ensures.value, c.swap_doctor-swap_doctor.ensures, c.as_bytes-7.ensures.value, c.swap_hospital-swap_hospital.ensures, c.as_bytes-8.ensures.value, c.requires.swap_change)
    at c.write_row.ensures
