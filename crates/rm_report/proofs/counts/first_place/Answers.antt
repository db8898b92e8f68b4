use Rattle.std.proofs.Common.{◌<◌, length, arith}
use Rattle.rm_report.proofs.Applying.{listed-each, listed-below, first-differs, first-same, place-below}
use Rattle.rm_report.proofs.counts.first_place.Goals as goal

pub list-contracts-requires : goal.list-contracts-requires
list-contracts-requires c = rw (c.listed.ensures.listed) (omega (arith, listed-each c.args.case.now c.listed.ensures.case, c.requires.doctor, c.requires.doctors))

pub hospital-requires : goal.hospital-requires
hospital-requires c =
    let told = rw c.listed.ensures.listed at c.list-contracts.ensures in
    let some : 0 < length c.list-contracts.result.now = omega (arith, c.if-contracts-eq0.false) in
    rw (told, c.board.ensures.board)
    (listed-below c.args.case.now c.args.d 0 c.board.ensures.case (omega (arith, c.requires.doctor, c.requires.doctors)) (rw told at some))

pub returns-then-hospital-h-clause-first : goal.returns-then-hospital-h-clause-first
returns-then-hospital-h-clause-first c =
    let told = rw c.listed.ensures.listed at c.list-contracts.ensures in
    let some : 0 < length c.list-contracts.result.now = omega (arith, c.if-contracts-eq0.false) in
    λ k. first-differs c.args.case.now c.args.places.now c.args.d c.in-Some.h c.hospital.result k (rw c.in-Some.is at c.get.ensures) (rw told at some)
    (rw (told, c.board.ensures.board) at c.hospital.ensures.hospital) c.if-hospital-h.true

pub returns-clause-first : goal.returns-clause-first
returns-clause-first c =
    let told = rw c.listed.ensures.listed at c.list-contracts.ensures in
    let some : 0 < length c.list-contracts.result.now = omega (arith, c.if-contracts-eq0.false) in
    λ k. first-same c.args.case.now c.args.places.now c.args.d c.in-Some.h c.hospital.result k (rw c.in-Some.is at c.get.ensures) (rw told at some)
    (rw (told, c.board.ensures.board) at c.hospital.ensures.hospital) c.if-hospital-h.false

pub returns-clause-below : goal.returns-clause-below
returns-clause-below c =
    rw c.in-Some.is at (place-below (length c.args.case.now.roster.hospitals) c.args.places.now c.args.d c.get.result c.requires.hospitals c.requires.doctor c.get.ensures)
