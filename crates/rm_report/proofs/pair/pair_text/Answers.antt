use Rattle.std.proofs.Common.{◌≡◌, [], length, arith}
use Rattle.std.proofs.lemmas.Option.{get_or_from_slice_get}
use Rattle.rm_report.specs.Texts.{pair_text, pair_header, pair_row}
use Rattle.rm_report.proofs.TextRows.{csv-one, row-more}
use Rattle.rm_report.proofs.pair.pair_text.Goals as goal

pub loop-d-init : goal.loop-d-init
loop-d-init c = rw (csv-one pair_header) (c.in_ok-write_row.ensures _ c.in_ok-writer.ensures)

pub loop-d-preserved : goal.loop-d-preserved
loop-d-preserved c =
    let doctor = get_or_from_slice_get c.args.case.now.roster.doctors c.loop-d.d c.name-doctor.result.now [] (rw (c.doctors-doctors.ensures.doctors, c.roster.ensures.roster) at c.name-doctor.ensures.name) in
    rw (row-more pair_header (pair_row c.args.case.now c.args.pair.now.declared c.args.pair.now.replaced) c.loop-d.d, doctor, ← c.place_name-declared.ensures, ← c.place_name-replaced.ensures, ← c.as_bytes.ensures.value, ← c.as_bytes-in-loop-d.ensures.value, ← c.as_bytes-in-loop-d-2.ensures.value)
    (c.in_ok-write_row-2.ensures _ c.loop-d.invariant)

pub returns : goal.returns
unfolding pair_text
returns c =
    let count : c.len-d-end.result ≡ length c.args.case.now.roster.doctors = rw (c.doctors-doctors.ensures.doctors, c.roster.ensures.roster) at c.len-d-end.ensures.count in
    let all : c.loop-d.d ≡ length c.args.case.now.roster.doctors = omega (arith, count, c.loop-d-test.false, c.loop-d.auto.d-end) in
    rw (← all) (c.in_ok-text.ensures _ c.loop-d.invariant)
