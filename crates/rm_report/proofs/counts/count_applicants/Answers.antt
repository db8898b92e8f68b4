use Rattle.std.proofs.Common.{◌≡◌, length, arith}
use Rattle.rm_sets.specs.Sets.{below}
use Rattle.rm_report.specs.Counts.{hospital_key, prefecture_key}
use Rattle.rm_report.specs.Report.{applies_at}
use Rattle.rm_report.proofs.Applying.{country-more, country-same, hospitals-all, listed-each, marks-doctor, prefectures-all}
use Rattle.rm_report.proofs.Counted.{count-few}
use Rattle.rm_report.proofs.counts.count_applicants.Goals.{then-contracts-gt0, else-contracts-gt0}
use Rattle.rm_report.proofs.counts.count_applicants.Goals as goal

pub mark_all-requires-clause-doctor : goal.mark_all-requires-clause-doctor
mark_all-requires-clause-doctor c =
    omega (arith, rw (c.len-d-end.ensures.len, c.listed-listed.ensures.listed, listed-each c.args.case.now c.listed-listed.ensures.case) at c.loop-d-test.true)

pub overflow_add-country : goal.overflow_add-country
overflow_add-country c =
    let low = rw (c.len-d-end.ensures.len, c.listed-listed.ensures.listed, listed-each c.args.case.now c.listed-listed.ensures.case) at c.loop-d-test.true in
    omega (arith, low, c.loop-d.invariant.2, count-few (applies_at c.args.case.now (below (length c.args.case.now.roster.hospitals))) c.loop-d.d, c.listed-listed.ensures.case.roster.few_doctors)

pub loop-d-preserved : goal.loop-d-preserved
loop-d-preserved c =
    let low = rw (c.len-d-end.ensures.len, c.listed-listed.ensures.listed, listed-each c.args.case.now c.listed-listed.ensures.case) at c.loop-d-test.true in
    let told = rw c.listed-listed.ensures.listed at c.list-contracts.ensures in (
      marks-doctor c.args.case.now _ c.loop-d.d (hospital_key c.args.case.now) _ _ _ told c.mark_all.ensures.hospitals,
      marks-doctor c.args.case.now _ c.loop-d.d (prefecture_key c.args.case.now) _ _ _ told c.mark_all.ensures.prefectures,
      elim c.if-contracts-gt0.branch [
        | then-contracts-gt0 w ↦ country-more c.args.case.now c.loop-d.d c.loop-d.country c.if-contracts-gt0.country c.list-contracts.result.now c.listed-listed.ensures.case low told
            w.if-contracts-gt0.true c.loop-d.invariant.2 w.country-is
        | else-contracts-gt0 w ↦ country-same c.args.case.now c.loop-d.d c.loop-d.country c.if-contracts-gt0.country c.list-contracts.result.now told
            (omega (arith, w.if-contracts-gt0.false)) c.loop-d.invariant.2 w.country-is
      ],
    )

pub returns : goal.returns
returns c =
    let ended = rw (c.len-d-end.ensures.len, c.listed-listed.ensures.listed, listed-each c.args.case.now c.listed-listed.ensures.case) at c.loop-d-test.false in
    let within = rw (c.len-d-end.ensures.len, c.listed-listed.ensures.listed, listed-each c.args.case.now c.listed-listed.ensures.case) at c.loop-d.auto.d-end in
    let all : c.loop-d.d ≡ length c.args.case.now.roster.doctors = omega (arith, ended, within) in
    record {
      hospitals = hospitals-all c.args.case.now c.loop-d.d _ _ c.listed-listed.ensures.case all c.loop-d.invariant.0;
      prefectures = prefectures-all c.args.case.now c.loop-d.d _ _ c.listed-listed.ensures.case all c.loop-d.invariant.1;
      country = rw all at c.loop-d.invariant.2;
    }
