use Rattle.std.proofs.Common.{◌<◌, length, arith}
use Rattle.rm_report.specs.Report.{has_place}
use Rattle.rm_report.proofs.Applying.{place-below, place-told}
use Rattle.rm_report.proofs.Counted.{each-counted, each-few}
use Rattle.rm_report.proofs.counts.placed.Goals as goal

pub count_at-requires-clause-few : goal.count_at-requires-clause-few
count_at-requires-clause-few c =
    let low : c.loop-d.d < length c.args.places.now = rw c.len-d-end.ensures at c.loop-d-test.true in
    each-few _ c.loop-d.d (has_place c.args.places.now) c.loop-d.counts.items c.get.result c.loop-d.invariant
    (place-below (length c.args.case.now.roster.hospitals) c.args.places.now c.loop-d.d c.get.result c.requires.hospitals low c.get.ensures)
    (omega (arith, low, c.requires.doctors, c.roster.ensures.case.roster.few_doctors))

pub loop-d-preserved : goal.loop-d-preserved
loop-d-preserved c =
    let low : c.loop-d.d < length c.args.places.now = rw c.len-d-end.ensures at c.loop-d-test.true in
    rw c.count_at.ensures
    (each-counted _ c.loop-d.d (has_place c.args.places.now) c.loop-d.counts.items c.get.result c.loop-d.invariant
    (place-below (length c.args.case.now.roster.hospitals) c.args.places.now c.loop-d.d c.get.result c.requires.hospitals low c.get.ensures)
    (λ k. place-told c.args.places.now c.loop-d.d k c.get.result c.get.ensures))
