use Rattle.std.proofs.Common.{◌<◌, ◌&&◌, length, arith}
use Rattle.rm_report.specs.Report.{has_first, has_place}
use Rattle.rm_report.proofs.Counted.{each-counted, each-few}
use Rattle.rm_report.proofs.counts.placed_first.Goals as goal

pub count_at-requires-clause-few : goal.count_at-requires-clause-few
count_at-requires-clause-few c =
    let low : c.loop-d.d < length c.args.places.now = rw c.len-d-end.ensures at c.loop-d-test.true in
    each-few _ c.loop-d.d (λ h d. has_place c.args.places.now h d && has_first c.args.case.now h d) c.loop-d.counts.items c.first_place.result c.loop-d.invariant
    c.first_place.ensures.below (omega (arith, low, c.requires.doctors, c.roster.ensures.case.roster.few_doctors))

pub loop-d-preserved : goal.loop-d-preserved
loop-d-preserved c =
    rw c.count_at.ensures
    (each-counted _ c.loop-d.d (λ h d. has_place c.args.places.now h d && has_first c.args.case.now h d) c.loop-d.counts.items c.first_place.result c.loop-d.invariant
    c.first_place.ensures.below c.first_place.ensures.first)
