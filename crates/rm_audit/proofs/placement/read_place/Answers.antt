use Rattle.std.proofs.Common.{◌≡◌, ◌∙◌, true, not, ap, sym, get_or, None}
use Rattle.rm_roster.specs.Cells.{field}
use Rattle.rm_audit.specs.Placement.{gives_place}
use Rattle.rm_audit.proofs.PlacedRows.{found_name, unlisted}
use Rattle.rm_audit.proofs.placement.read_place.Goals as goal

pub returns-then-not-is_listed-clause-stops : goal.returns-then-not-is_listed-clause-stops
returns-then-not-is_listed-clause-stops c =
    let d = found_name c.args.case.now.roster.doctors _ (field 1 c.args.row.now) _ _ _ (c.doctors.ensures.doctors ∙ ap (λ r. r.doctors) c.roster-roster.ensures.roster) c.cell.ensures c.find.ensures c.in-Some.is in
    let h = found_name c.args.case.now.roster.hospitals _ (field 2 c.args.row.now) _ _ _ (c.hospitals.ensures.hospitals ∙ ap (λ r. r.hospitals) c.roster-roster.ensures.roster) c.cell-cell.ensures c.find-2.ensures c.in-Some-find.is in
    let gives : gives_place c.args.row.now ≡ true = ap not (sym (rw c.cell-cell.ensures at c.is_empty.ensures) ∙ c.if-is_empty.false) in
    rw c.refused-then-not-is_listed.ensures
    (unlisted c.args.case.now c.args.i (λ d. get_or c.args.former.now d None) c.args.row.now c.in-Some.doctor d c.in-Some-find.h c.in_default-former.is gives h (sym c.is_listed.ensures ∙ c.if-not-is_listed.true))
