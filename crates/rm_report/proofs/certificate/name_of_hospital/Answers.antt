use Rattle.std.proofs.Common.{[], sym}
use Rattle.std.proofs.lemmas.Option.{get_or_from_slice_get}
use Rattle.rm_market.specs.Board.{hospital_of}
use Rattle.rm_case.specs.Case.{market}
use Rattle.rm_report.proofs.ContractNames.{ranks-each}
use Rattle.rm_report.proofs.certificate.name_of_hospital.Goals as goal

pub name-requires : goal.name-requires
name-requires c =
    rw (c.hospitals.ensures.hospitals, c.roster.ensures.roster) (rw (c.board.ensures.board, ranks-each c.args.case.now c.board.ensures.case) at c.hospital.ensures.below)

pub returns : goal.returns
returns c =
    sym (get_or_from_slice_get c.args.case.now.roster.hospitals (hospital_of (market c.args.case.now).board c.args.x) c.name.result.now [] (rw (c.hospital.ensures.hospital, c.board.ensures.board, c.hospitals.ensures.hospitals, c.roster.ensures.roster) at c.name.ensures.name))
