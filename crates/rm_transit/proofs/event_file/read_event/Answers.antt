use Rattle.std.proofs.Common.{◌∙◌, ap}
use Rattle.rm_roster.specs.Cells.{field}
use Rattle.rm_case.proofs.NumberedRows.{found-name}
use Rattle.rm_transit.proofs.EventRows.{doctor_low}
use Rattle.rm_transit.proofs.event_file.read_event.Goals as goal

pub returns-else-not-is_empty-clause-known : goal.returns-else-not-is_empty-clause-known
returns-else-not-is_empty-clause-known c =
    doctor_low c.args.case.now c.in-Some-find.d (field 2 c.args.row.now) c.roster.ensures.case
    (found-name c.args.case.now.roster.doctors _ (field 2 c.args.row.now) _ _ _ (c.doctors.ensures.doctors ∙ ap (λ r. r.doctors) c.roster.ensures.roster) c.cell-2.ensures c.find.ensures c.in-Some-find.is)
