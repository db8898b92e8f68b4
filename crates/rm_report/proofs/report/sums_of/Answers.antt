use Rattle.std.proofs.Common.{◌∙◌, length}
use Rattle.std.proofs.lemmas.List.{take_all}
use Rattle.rm_report.specs.Report.{first_at, placed_at}
use Rattle.rm_report.proofs.Sums.{sums-same, told}
use Rattle.rm_report.proofs.report.sums_of.Goals as goal

pub returns : goal.returns
returns c =
    let case = c.args.report.now.case.now in
    let places = c.args.report.now.places.now in
    let hs = c.args.hospitals.now in
    let whole = take_all c.loop-i.i hs c.loop-i-test.false in
    told case places hs _
    (rw whole at c.loop-i.invariant.0)
    (rw whole at c.loop-i.invariant.2)
    ((rw whole at c.loop-i.invariant.4) ∙ sums-same (length case.roster.hospitals) (placed_at case places) c.args.report.now.counts.placed.items hs c.requires.report.placed c.requires.hospitals)
    c.requires.applicants
    ((rw whole at c.loop-i.invariant.6) ∙ sums-same (length case.roster.hospitals) (first_at case places) c.args.report.now.counts.first.items hs c.requires.report.first c.requires.hospitals)
