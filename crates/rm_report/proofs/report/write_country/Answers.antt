use Rattle.std.proofs.Common.{◌≡◌, ◌∙◌, length}
use Rattle.rm_sets.specs.Sets.{below}
use Rattle.rm_report.proofs.Sums.{few-below, in-country}
use Rattle.rm_report.proofs.report.write_country.Goals as goal

pub sums_of-figures-requires-clause-hospitals : goal.sums_of-figures-requires-clause-hospitals
sums_of-figures-requires-clause-hospitals c =
    let all : c.deref.result.now ≡ below (length c.args.report.now.case.now.roster.hospitals) =
    rw (c.len.ensures.count, c.hospitals.ensures.hospitals, c.roster-roster.ensures.roster) at (c.deref.ensures.value ∙ c.in_ok-hospitals.ensures) in
    rw all (in-country (length c.args.report.now.case.now.roster.hospitals))

pub sums_of-figures-requires-clause-few : goal.sums_of-figures-requires-clause-few
sums_of-figures-requires-clause-few c =
    let all : c.deref.result.now ≡ below (length c.args.report.now.case.now.roster.hospitals) =
    rw (c.len.ensures.count, c.hospitals.ensures.hospitals, c.roster-roster.ensures.roster) at (c.deref.ensures.value ∙ c.in_ok-hospitals.ensures) in
    rw all (few-below (length c.args.report.now.case.now.roster.hospitals) 10000 c.roster-roster.ensures.case.roster.few_hospitals)

pub returns : goal.returns
returns c =
    let all : c.deref.result.now ≡ below (length c.args.report.now.case.now.roster.hospitals) =
    rw (c.len.ensures.count, c.hospitals.ensures.hospitals, c.roster-roster.ensures.roster) at (c.deref.ensures.value ∙ c.in_ok-hospitals.ensures) in
    rw (c.sums_of-figures.ensures, all) at c.write_figures.ensures
