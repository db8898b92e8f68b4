use Rattle.std.proofs.Common.{[], sym}
use Rattle.std.proofs.lemmas.Option.{get_or_from_slice_get}
use Rattle.rm_market.specs.Board.{doctor_of}
use Rattle.rm_case.specs.Case.{market}
use Rattle.rm_report.proofs.ContractNames.{doctor-named}
use Rattle.rm_report.proofs.certificate.name_of_doctor.Goals as goal

pub name-requires : goal.name-requires
name-requires c =
    rw (c.doctor.ensures, c.board.ensures.board, c.doctors.ensures.doctors, c.roster.ensures.roster) (doctor-named c.args.case.now c.args.x c.board.ensures.case c.requires)

pub returns : goal.returns
returns c =
    sym (get_or_from_slice_get c.args.case.now.roster.doctors (doctor_of (market c.args.case.now).board c.args.x) c.name.result.now [] (rw (c.doctor.ensures, c.board.ensures.board, c.doctors.ensures.doctors, c.roster.ensures.roster) at c.name.ensures.name))
