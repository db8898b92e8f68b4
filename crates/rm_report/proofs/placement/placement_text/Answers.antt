use Rattle.std.proofs.Common.{◌≡◌, [], length, arith}
use Rattle.std.proofs.lemmas.Option.{get_or_from_slice_get}
use Rattle.rm_report.specs.Texts.{placement_text, placement_header, placement_row}
use Rattle.rm_report.proofs.TextRows.{csv-one, row-more}
use Rattle.rm_report.proofs.placement.placement_text.Goals as goal

pub loop-d-init : goal.loop-d-init
loop-d-init c = rw (csv-one placement_header) (c.in_ok-write_row.ensures _ c.in_ok-writer.ensures)

pub loop-d-preserved : goal.loop-d-preserved
loop-d-preserved c =
    let doctor = get_or_from_slice_get c.args.case.now.roster.doctors c.loop-d.d c.name-doctor.result.now [] (rw (c.doctors-doctors.ensures.doctors, c.roster.ensures.roster) at c.name-doctor.ensures.name) in
    rw (row-more placement_header (placement_row c.args.case.now c.args.places.now) c.loop-d.d, doctor, ← c.place_name-hospital.ensures, ← c.as_bytes.ensures.value, ← c.as_bytes-in-loop-d.ensures.value)
    (c.in_ok-write_row-2.ensures _ c.loop-d.invariant)

pub returns : goal.returns
unfolding placement_text
returns c =
    let all : c.loop-d.d ≡ length c.args.case.now.roster.doctors = omega (arith, c.len-d-end.ensures, c.loop-d-test.false, c.loop-d.auto.d-end, c.requires.doctors) in
    rw (← all) (c.in_ok-text.ensures _ c.loop-d.invariant)
