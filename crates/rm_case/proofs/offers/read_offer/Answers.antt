use Rattle.std.proofs.Common.{◌∙◌, ap, arith, get_or, None}
use Rattle.rm_roster.specs.Cells.{field}
use Rattle.rm_case.proofs.NumberedRows.{found-name, hospital-low}
use Rattle.rm_case.proofs.OfferRows.{found-number, contract-low, contract-is, no-contract, repeated, accepted}
use Rattle.rm_case.proofs.offers.read_offer.Goals as goal

pub find-requires-3 : goal.find-requires-3
find-requires-3 c =
    let h = found-name c.args.case.now.roster.hospitals _ (field 2 c.args.row.now) _ _ _ (c.hospitals.ensures.hospitals ∙ ap (λ r. r.hospitals) c.roster-roster.ensures.roster) c.cell-2.ensures c.find-2.ensures c.in-Some-find.is in
    hospital-low c.args.case.now _ c.board.ensures.board c.in-Some-find.h (field 2 c.args.row.now) c.board.ensures.case h

pub returns-in_default-find-2-clause-stops : goal.returns-in_default-find-2-clause-stops
returns-in_default-find-2-clause-stops c =
    let d = found-name c.args.case.now.roster.doctors _ (field 1 c.args.row.now) _ _ _ (c.doctors.ensures.doctors ∙ ap (λ r. r.doctors) c.roster-roster.ensures.roster) c.cell.ensures c.find.ensures c.in-Some.is in
    let h = found-name c.args.case.now.roster.hospitals _ (field 2 c.args.row.now) _ _ _ (c.hospitals.ensures.hospitals ∙ ap (λ r. r.hospitals) c.roster-roster.ensures.roster) c.cell-2.ensures c.find-2.ensures c.in-Some-find.is in
    let x = found-number c.args.case.now _ c.board.ensures.board c.in-Some.d c.in-Some-find.h _ _ c.find-3.ensures c.in_default-find-2.is in
    rw c.refused-in_default-find-2.ensures (no-contract c.args.case.now c.args.i (λ x. get_or c.args.former.now x None) c.args.row.now c.in-Some.d c.in-Some-find.h d h x)

pub bounds : goal.bounds
bounds c =
    let x = found-number c.args.case.now _ c.board.ensures.board c.in-Some.d c.in-Some-find.h _ _ c.find-3.ensures c.in-Some-find-2.is in
    let lt = contract-low c.args.case.now c.in-Some.d c.in-Some-find.h c.in-Some-find-2.x x in
    omega (arith, lt, c.requires)

pub returns-in-Some-former-clause-stops : goal.returns-in-Some-former-clause-stops
returns-in-Some-former-clause-stops c =
    let d = found-name c.args.case.now.roster.doctors _ (field 1 c.args.row.now) _ _ _ (c.doctors.ensures.doctors ∙ ap (λ r. r.doctors) c.roster-roster.ensures.roster) c.cell.ensures c.find.ensures c.in-Some.is in
    let h = found-name c.args.case.now.roster.hospitals _ (field 2 c.args.row.now) _ _ _ (c.hospitals.ensures.hospitals ∙ ap (λ r. r.hospitals) c.roster-roster.ensures.roster) c.cell-2.ensures c.find-2.ensures c.in-Some-find.is in
    let x = found-number c.args.case.now _ c.board.ensures.board c.in-Some.d c.in-Some-find.h _ _ c.find-3.ensures c.in-Some-find-2.is in
    rw c.refused-in-Some-former.ensures (repeated c.args.case.now c.args.i (λ x. get_or c.args.former.now x None) c.args.row.now c.in-Some.d c.in-Some-find.h c.in-Some-find-2.x c.in-Some-former.row d h x c.in-Some-former.is)

pub returns-in-None-clause-passes : goal.returns-in-None-clause-passes
returns-in-None-clause-passes c =
    let d = found-name c.args.case.now.roster.doctors _ (field 1 c.args.row.now) _ _ _ (c.doctors.ensures.doctors ∙ ap (λ r. r.doctors) c.roster-roster.ensures.roster) c.cell.ensures c.find.ensures c.in-Some.is in
    let h = found-name c.args.case.now.roster.hospitals _ (field 2 c.args.row.now) _ _ _ (c.hospitals.ensures.hospitals ∙ ap (λ r. r.hospitals) c.roster-roster.ensures.roster) c.cell-2.ensures c.find-2.ensures c.in-Some-find.is in
    let x = found-number c.args.case.now _ c.board.ensures.board c.in-Some.d c.in-Some-find.h _ _ c.find-3.ensures c.in-Some-find-2.is in
    accepted c.args.case.now c.args.i (λ x. get_or c.args.former.now x None) c.args.row.now c.in-Some.d c.in-Some-find.h c.in-Some-find-2.x d h x c.in-None.is

pub returns-in-None-clause-contract : goal.returns-in-None-clause-contract
returns-in-None-clause-contract c =
    let d = found-name c.args.case.now.roster.doctors _ (field 1 c.args.row.now) _ _ _ (c.doctors.ensures.doctors ∙ ap (λ r. r.doctors) c.roster-roster.ensures.roster) c.cell.ensures c.find.ensures c.in-Some.is in
    let h = found-name c.args.case.now.roster.hospitals _ (field 2 c.args.row.now) _ _ _ (c.hospitals.ensures.hospitals ∙ ap (λ r. r.hospitals) c.roster-roster.ensures.roster) c.cell-2.ensures c.find-2.ensures c.in-Some-find.is in
    let x = found-number c.args.case.now _ c.board.ensures.board c.in-Some.d c.in-Some-find.h _ _ c.find-3.ensures c.in-Some-find-2.is in
    let lt = contract-low c.args.case.now c.in-Some.d c.in-Some-find.h c.in-Some-find-2.x x in (
      contract-is c.args.case.now c.args.i (λ x. get_or c.args.former.now x None) c.args.row.now c.in-Some.d c.in-Some-find.h d h ∙ x,
      omega (arith, lt, c.requires),
      c.in-None.is,
    )
