use Rattle.std.proofs.Common.{sym, ◌∙◌}
use Rattle.rm_matching_laws.proofs.Places.{contract_some}
use Rattle.rm_case.proofs.solve.hospital_at.Goals as goal

pub hospital-requires : goal.hospital-requires
hospital-requires g c =
    c.requires.held.below c.in-Some.x (contract_some c.args.desk.now.wishes c.args.d _ c.in-Some.x (sym c.place.ensures ∙ c.in-Some.is)).0
