use Rattle.std.proofs.Common.{◌≡◌, ◌∙◌, [], ap, length, arith}
use Rattle.std.proofs.lemmas.Option.{get_or_from_slice_get}
use Rattle.rm_report.proofs.TextRows.{csv-one, csv-more, row-more}
use Rattle.rm_transit.specs.Texts.{closing_row, transit_header, transit_row, transit_rows, transit_text}
use Rattle.rm_transit.proofs.text.transit_text.Goals as goal

pub loop-d-init : goal.loop-d-init
loop-d-init c = rw (csv-one transit_header) (c.in_ok-write_row.ensures _ c.in_ok-writer.ensures)

pub loop-d-preserved : goal.loop-d-preserved
loop-d-preserved c =
    let doctor = get_or_from_slice_get c.args.case.now.roster.doctors c.loop-d.d c.name-doctor.result.now [] (rw (c.doctors-doctors.ensures.doctors, c.roster.ensures.roster) at c.name-doctor.ensures.name) in
    rw (row-more transit_header (transit_row c.args.case.now c.args.marks.now) c.loop-d.d, doctor, ← c.mark_hospital-hospital.ensures, ← c.mark_word-word.ensures, ← c.as_bytes.ensures.value, ← c.as_bytes-in-loop-d.ensures.value, ← c.as_bytes-in-loop-d-2.ensures.value)
    (c.in_ok-write_row-2.ensures _ c.loop-d.invariant)

pub returns : goal.returns
unfolding transit_text
returns c =
    let doctors = ap length (c.doctors-doctors.ensures.doctors ∙ ap (λ r. r.doctors) c.roster.ensures.roster) in
    let all : c.loop-d.d ≡ length c.args.case.now.roster.doctors = omega (arith, doctors, c.len-d-end.ensures.count, c.loop-d-test.false, c.loop-d.auto.d-end) in
    rw (csv-more (transit_rows c.args.case.now c.args.marks.now (length c.args.case.now.roster.doctors)) (closing_row c.args.closed), ← all)
    (c.in_ok-text.ensures _ (c.in_ok-write_closing.ensures _ c.loop-d.invariant))
