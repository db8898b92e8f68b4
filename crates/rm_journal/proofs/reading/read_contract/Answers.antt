use Rattle.std.proofs.Common.{◌∙◌, ap, refl}
use Rattle.rm_case.proofs.NumberedRows.{found-name, hospital-low}
use Rattle.rm_journal.proofs.Read.{contract-is, contract-low, contract-passes, no-contract}
use Rattle.rm_journal.proofs.reading.read_contract.Goals as goal

pub find-requires-3 : goal.find-requires-3
find-requires-3 c =
    let h = found-name c.args.case.now.roster.hospitals _ c.args.hospital.now _ _ _ (c.hospitals.ensures.hospitals ∙ ap (λ r. r.hospitals) c.roster-roster.ensures.roster) refl c.find-2.ensures c.in-Some-find.is in
    hospital-low c.args.case.now _ c.board.ensures.board c.in-Some-find.h c.args.hospital.now c.board.ensures.case h

pub returns-in-Some-find-2-clause-passes : goal.returns-in-Some-find-2-clause-passes
returns-in-Some-find-2-clause-passes c =
    let d = found-name c.args.case.now.roster.doctors _ c.args.doctor.now _ _ _ (c.doctors.ensures.doctors ∙ ap (λ r. r.doctors) c.roster-roster.ensures.roster) refl c.find.ensures c.in-Some.is in
    let h = found-name c.args.case.now.roster.hospitals _ c.args.hospital.now _ _ _ (c.hospitals.ensures.hospitals ∙ ap (λ r. r.hospitals) c.roster-roster.ensures.roster) refl c.find-2.ensures c.in-Some-find.is in
    contract-passes c.args.case.now c.args.i c.args.field c.args.doctor.now c.args.hospital.now c.in-Some.d c.in-Some-find.h d h _ c.board.ensures.board _ c.find-3.ensures _ c.in-Some-find-2.is

pub returns-in-Some-find-2-clause-contract : goal.returns-in-Some-find-2-clause-contract
returns-in-Some-find-2-clause-contract c =
    let d = found-name c.args.case.now.roster.doctors _ c.args.doctor.now _ _ _ (c.doctors.ensures.doctors ∙ ap (λ r. r.doctors) c.roster-roster.ensures.roster) refl c.find.ensures c.in-Some.is in
    let h = found-name c.args.case.now.roster.hospitals _ c.args.hospital.now _ _ _ (c.hospitals.ensures.hospitals ∙ ap (λ r. r.hospitals) c.roster-roster.ensures.roster) refl c.find-2.ensures c.in-Some-find.is in
    contract-is c.args.case.now c.args.i c.args.field c.args.doctor.now c.args.hospital.now c.in-Some.d c.in-Some-find.h d h _ c.board.ensures.board _ c.find-3.ensures ∙ c.in-Some-find-2.is

pub returns-in-Some-find-2-clause-below : goal.returns-in-Some-find-2-clause-below
returns-in-Some-find-2-clause-below c =
    let d = found-name c.args.case.now.roster.doctors _ c.args.doctor.now _ _ _ (c.doctors.ensures.doctors ∙ ap (λ r. r.doctors) c.roster-roster.ensures.roster) refl c.find.ensures c.in-Some.is in
    let h = found-name c.args.case.now.roster.hospitals _ c.args.hospital.now _ _ _ (c.hospitals.ensures.hospitals ∙ ap (λ r. r.hospitals) c.roster-roster.ensures.roster) refl c.find-2.ensures c.in-Some-find.is in
    contract-low c.args.case.now c.args.i c.args.field c.args.doctor.now c.args.hospital.now c.in-Some.d c.in-Some-find.h d h _ c.board.ensures.board _ c.find-3.ensures _ c.in-Some-find-2.is

pub returns-in-None-clause-stops : goal.returns-in-None-clause-stops
returns-in-None-clause-stops c =
    let d = found-name c.args.case.now.roster.doctors _ c.args.doctor.now _ _ _ (c.doctors.ensures.doctors ∙ ap (λ r. r.doctors) c.roster-roster.ensures.roster) refl c.find.ensures c.in-Some.is in
    let h = found-name c.args.case.now.roster.hospitals _ c.args.hospital.now _ _ _ (c.hospitals.ensures.hospitals ∙ ap (λ r. r.hospitals) c.roster-roster.ensures.roster) refl c.find-2.ensures c.in-Some-find.is in
    rw c.refused-in-None.ensures (no-contract c.args.case.now c.args.i c.args.field c.args.doctor.now c.args.hospital.now c.in-Some.d c.in-Some-find.h d h _ c.board.ensures.board _ c.find-3.ensures c.in-None.is)
