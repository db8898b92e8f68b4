use Rattle.std.proofs.Common.{◌∙◌, ap, refl, arith}
use Rattle.rm_roster.specs.Cells.{field}
use Rattle.rm_case.specs.Case.{market}
use Rattle.rm_case.proofs.NumberedRows.{found-name, hospital-low}
use Rattle.rm_case.proofs.choices.read_choice.Goals as goal

pub bounds : goal.bounds
bounds c =
    let h = found-name c.args.case.now.roster.hospitals _ (field 1 c.args.row.now) _ _ _ (c.hospitals.ensures.hospitals ∙ ap (λ r. r.hospitals) c.roster.ensures.roster) c.cell.ensures c.find.ensures c.in-Some.is in
    omega (arith, hospital-low c.args.case.now (market c.args.case.now).board refl c.in-Some.h (field 1 c.args.row.now) c.roster.ensures.case h, c.requires)

pub returns-in-None-clause-hospital : goal.returns-in-None-clause-hospital
returns-in-None-clause-hospital c =
    let h = found-name c.args.case.now.roster.hospitals _ (field 1 c.args.row.now) _ _ _ (c.hospitals.ensures.hospitals ∙ ap (λ r. r.hospitals) c.roster.ensures.roster) c.cell.ensures c.find.ensures c.in-Some.is in
    let low = hospital-low c.args.case.now (market c.args.case.now).board refl c.in-Some.h (field 1 c.args.row.now) c.roster.ensures.case h in
    (h, omega (arith, low, c.requires), c.in-None.is)
