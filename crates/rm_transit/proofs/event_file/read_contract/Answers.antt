use Rattle.std.proofs.Common.{◌∙◌, ap}
use Rattle.rm_roster.specs.Cells.{field}
use Rattle.rm_case.proofs.NumberedRows.{found-name, hospital-low}
use Rattle.rm_case.proofs.OfferRows.{found-number, contract-low}
use Rattle.rm_transit.proofs.EventRows.{contract_is, is_contract, no_contract}
use Rattle.rm_transit.proofs.event_file.read_contract.Goals as goal

pub find-requires-2 : goal.find-requires-2
find-requires-2 c =
    let h = found-name c.args.case.now.roster.hospitals _ (field 3 c.args.row.now) _ _ _ (c.hospitals.ensures.hospitals ∙ ap (λ r. r.hospitals) c.roster.ensures.roster) c.cell.ensures c.find.ensures c.in-Some.is in
    hospital-low c.args.case.now _ c.board.ensures.board c.in-Some.h (field 3 c.args.row.now) c.board.ensures.case h

pub returns-in-Some-find-clause-passes : goal.returns-in-Some-find-clause-passes
returns-in-Some-find-clause-passes c =
    let h = found-name c.args.case.now.roster.hospitals _ (field 3 c.args.row.now) _ _ _ (c.hospitals.ensures.hospitals ∙ ap (λ r. r.hospitals) c.roster.ensures.roster) c.cell.ensures c.find.ensures c.in-Some.is in
    let x = found-number c.args.case.now _ c.board.ensures.board c.args.d c.in-Some.h _ _ c.find-2.ensures c.in-Some-find.is in
    is_contract c.args.case.now c.args.row.now c.args.d c.in-Some.h c.requires.doctor h c.args.i c.in-Some-find.x x

pub returns-in-Some-find-clause-contract : goal.returns-in-Some-find-clause-contract
returns-in-Some-find-clause-contract c =
    let h = found-name c.args.case.now.roster.hospitals _ (field 3 c.args.row.now) _ _ _ (c.hospitals.ensures.hospitals ∙ ap (λ r. r.hospitals) c.roster.ensures.roster) c.cell.ensures c.find.ensures c.in-Some.is in
    let x = found-number c.args.case.now _ c.board.ensures.board c.args.d c.in-Some.h _ _ c.find-2.ensures c.in-Some-find.is in
    contract_is c.args.case.now c.args.row.now c.args.d c.in-Some.h c.requires.doctor h ∙ x

pub returns-in-Some-find-clause-below : goal.returns-in-Some-find-clause-below
returns-in-Some-find-clause-below c =
    contract-low c.args.case.now c.args.d c.in-Some.h c.in-Some-find.x (found-number c.args.case.now _ c.board.ensures.board c.args.d c.in-Some.h _ _ c.find-2.ensures c.in-Some-find.is)

pub returns-in-None-clause-stops : goal.returns-in-None-clause-stops
returns-in-None-clause-stops c =
    let h = found-name c.args.case.now.roster.hospitals _ (field 3 c.args.row.now) _ _ _ (c.hospitals.ensures.hospitals ∙ ap (λ r. r.hospitals) c.roster.ensures.roster) c.cell.ensures c.find.ensures c.in-Some.is in
    let x = found-number c.args.case.now _ c.board.ensures.board c.args.d c.in-Some.h _ _ c.find-2.ensures c.in-None.is in
    rw c.refused-in-None.ensures (no_contract c.args.case.now c.args.row.now c.args.d c.in-Some.h c.requires.doctor h c.args.i x)
