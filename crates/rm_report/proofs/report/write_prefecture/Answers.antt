use Rattle.std.proofs.Common.{◌≡◌, ◌∙◌, [], get_or}
use Rattle.std.proofs.lemmas.Grind.{get_or_default_zero}
use Rattle.std.proofs.lemmas.List.{append-nil, take_all}
use Rattle.std.proofs.lemmas.Option.{get_or_from_slice_get}
use Rattle.std.proofs.lemmas.Result.{on_ok_weaker}
use Rattle.rm_roster.specs.Roster.{hospitals_in}
use Rattle.rm_report.specs.Texts.{csv_text}
use Rattle.rm_report.proofs.Sums.{few-in, in-prefecture}
use Rattle.rm_report.proofs.TextRows.{hospital-more, whole-more}
use Rattle.rm_report.proofs.report.write_prefecture.Goals as goal

pub loop-i-init : goal.loop-i-init
unfolding csv_text
loop-i-init c = λ text holds. rw (append-nil text) holds

pub figures_of-figures-requires-clause-hospital : goal.figures_of-figures-requires-clause-hospital
figures_of-figures-requires-clause-hospital c =
    let hs = rw c.roster-roster.ensures.roster at c.hospitals_in-hospitals.ensures.hospitals in
    rw hs (in-prefecture c.args.report.now.case.now.roster c.args.q c.loop-i.i 0 (rw hs at c.loop-i-test.true))

pub name-requires : goal.name-requires
name-requires c =
    let hs = rw c.roster-roster.ensures.roster at c.hospitals_in-hospitals.ensures.hospitals in
    rw (c.hospitals.ensures.hospitals, c.roster-roster.ensures.roster, hs) (in-prefecture c.args.report.now.case.now.roster c.args.q c.loop-i.i 0 (rw hs at c.loop-i-test.true))

pub loop-i-preserved : goal.loop-i-preserved
loop-i-preserved c =
    let case = c.args.report.now.case.now in
    let places = c.args.report.now.places.now in
    let hospitals = c.hospitals_in-hospitals.result.now in
    let prefecture = get_or_from_slice_get case.roster.prefectures c.args.q c.name-name.result.now [] (rw (c.prefectures.ensures.prefectures, c.roster-roster.ensures.roster) at c.name-name.ensures.name) in
    let hospital = get_or_from_slice_get case.roster.hospitals (get_or hospitals c.loop-i.i 0) c.name.result.now [] (rw (c.hospitals.ensures.hospitals, c.roster-roster.ensures.roster) at c.name.ensures.name) in
    λ text holds.
    rw (hospital-more case places c.args.q hospitals c.loop-i.i text c.loop-i-test.true)
    (rw (← prefecture, ← hospital, c.figures_of-figures.ensures) at (c.in_ok-write_figures.ensures _ (c.loop-i.invariant text holds)))

pub sums_of-figures-requires-clause-hospitals : goal.sums_of-figures-requires-clause-hospitals
sums_of-figures-requires-clause-hospitals c =
    let hs = rw c.roster-roster.ensures.roster at c.hospitals_in-hospitals.ensures.hospitals in
    rw hs (in-prefecture c.args.report.now.case.now.roster c.args.q)

pub sums_of-figures-requires-clause-few : goal.sums_of-figures-requires-clause-few
sums_of-figures-requires-clause-few c =
    let hs = rw c.roster-roster.ensures.roster at c.hospitals_in-hospitals.ensures.hospitals in
    rw hs (few-in c.args.report.now.case.now.roster c.args.q 10000 c.roster-roster.ensures.case.roster.few_hospitals)

pub sums_of-figures-requires-clause-applicants : goal.sums_of-figures-requires-clause-applicants
sums_of-figures-requires-clause-applicants c =
    let hs = rw c.roster-roster.ensures.roster at c.hospitals_in-hospitals.ensures.hospitals in
    let counts = c.args.report.now.counts.applicants.prefectures.items in
    let each = c.requires.report.applicants.prefectures in
    rw hs (c.index.ensures ∙ get_or_default_zero counts c.args.q c.index.result.now (rw each.each c.requires.prefecture) ∙ each.is c.args.q c.requires.prefecture)

pub returns : goal.returns
returns c =
    let case = c.args.report.now.case.now in
    let places = c.args.report.now.places.now in
    let hospitals = c.hospitals_in-hospitals.result.now in
    let hs : hospitals ≡ hospitals_in case.roster c.args.q = rw c.roster-roster.ensures.roster at c.hospitals_in-hospitals.ensures.hospitals in
    let prefecture = get_or_from_slice_get case.roster.prefectures c.args.q c.name-name.result.now [] (rw (c.prefectures.ensures.prefectures, c.roster-roster.ensures.roster) at c.name-name.ensures.name) in
    let written = rw (take_all c.loop-i.i hospitals c.loop-i-test.false) at c.loop-i.invariant in
    on_ok_weaker c.write_figures-2.result
    (λ more text holds.
    rw (whole-more case places c.args.q text, ← hs)
    (rw (← prefecture, c.sums_of-figures.ensures, c.cap_of_entry.ensures) at (more _ (written text holds))))
    c.write_figures-2.ensures
