use Rattle.std.proofs.Common.{[]}
use Rattle.std.proofs.lemmas.Option.{get_or_from_slice_get}
use Rattle.rm_report.proofs.journal.write_verdict.Goals as goal

pub returns-in-Accepted : goal.returns-in-Accepted
returns-in-Accepted c = rw c.in-Accepted.is c.write_row.ensures

pub returns-in-NotNext : goal.returns-in-NotNext
returns-in-NotNext c = rw c.in-NotNext.is c.write_number.ensures

pub returns-in-WrongAnswer : goal.returns-in-WrongAnswer
returns-in-WrongAnswer c = rw c.in-WrongAnswer.is c.write_number-in-WrongAnswer.ensures

pub returns-in-Unclosed : goal.returns-in-Unclosed
returns-in-Unclosed c =
    let doctor = get_or_from_slice_get c.args.case.now.roster.doctors c.in-Unclosed.d c.name-doctor.result.now [] (rw (c.doctors.ensures.doctors, c.roster.ensures.roster) at c.name-doctor.ensures.name) in
    rw (c.in-Unclosed.is, doctor, ← c.as_bytes.ensures.value) c.write_row-in-Unclosed.ensures
