use Rattle.rm_report.proofs.finding.write_contract.Goals as goal

pub returns : goal.returns
returns c =
    rw (c.as_bytes.ensures.value, c.name_of_doctor-doctor.ensures, c.as_bytes-2.ensures.value, c.name_of_hospital-hospital.ensures) at c.write_row.ensures
