use Rattle.std.proofs.Common.{◌≡◌, ◌∙◌, length, replicate, None, ap, rules}
use Rattle.rm_base.proofs.Stopping.{stops-on}
use Rattle.rm_audit.proofs.PlacedRows.{none_read, one_more, one_refused, one_missing, all_read}
use Rattle.rm_audit.proofs.placement.read_rows.Goals as goal

pub loop-i-init : goal.loop-i-init
loop-i-init c =
    let rows : c.in-Ok.rows.items ≡ replicate c.len-doctors.result None = search rules in
    let places : c.in-Ok-empty.places ≡ replicate c.len-doctors.result None = search rules in
    let count : c.len-doctors.result ≡ length c.args.case.now.roster.doctors = c.len-doctors.ensures.count ∙ ap length (c.doctors.ensures.doctors ∙ ap (λ r. r.doctors) c.roster.ensures.roster) in
    rw rows (none_read c.args.case.now c.args.table.now c.len-doctors.result c.in-Ok-empty.places count places)

pub returns-in-Err-clause-reads : goal.returns-in-Err-clause-reads
returns-in-Err-clause-reads c =
    let lt = rw c.rows-i-end.ensures at c.loop-i-test.true in
    let stops = rw c.deref.ensures.value at c.in-Err.ensures.stops in
    stops-on _ _ c.in-Err.fault
    (λ refusal some. one_refused c.args.case.now c.args.table.now c.loop-i.i c.loop-i.rows.items c.loop-i.places c.row.result c.loop-i.invariant refusal lt c.row.ensures some)
    stops

pub loop-i-preserved : goal.loop-i-preserved
loop-i-preserved c =
    let lt = rw c.rows-i-end.ensures at c.loop-i-test.true in
    let passes = rw c.deref.ensures.value at c.in-Ok-read_place.ensures.passes in
    let new = rw c.deref.ensures.value at c.in-Ok-read_place.ensures.new in
    let place = c.in-Ok-read_place.ensures.place in
    rw c.set.ensures (one_more c.args.case.now c.args.table.now c.loop-i.i c.loop-i.rows.items c.loop-i.places c.row.result c.loop-i.invariant c.in-Ok-read_place.place.doctor c.in-Ok-read_place.place.hospital lt c.row.ensures passes
    place.0 place.1 new.0 new.1 c.in-Ok-read_place.ensures.listed)

pub returns-in-Some-clause-reads : goal.returns-in-Some-clause-reads
returns-in-Some-clause-reads c =
    let found = rw c.deref-2.ensures.value at c.first_missing.ensures in
    let end = rw c.rows-i-end.ensures at c.loop-i-test.false in
    rw c.refused.ensures (one_missing c.args.case.now c.args.table.now c.loop-i.i c.loop-i.rows.items c.loop-i.places c.loop-i.invariant end c.in-Some.d c.first_missing.result found c.in-Some.is)

pub returns-clause-reads : goal.returns-clause-reads
returns-clause-reads c =
    let found = rw c.deref-2.ensures.value at c.first_missing.ensures in
    let end = rw c.rows-i-end.ensures at c.loop-i-test.false in
    all_read c.args.case.now c.args.table.now c.loop-i.i c.loop-i.rows.items c.loop-i.places c.loop-i.invariant end c.first_missing.result found c.in-None.is
