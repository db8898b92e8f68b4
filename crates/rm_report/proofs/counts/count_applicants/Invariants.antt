use Rattle.std.proofs.Common.{◌≡◌, length, count_by, []}
use Rattle.rm_sets.specs.Sets.{below}
use Rattle.rm_report.specs.Counts.{AreMarked, hospital_key, prefecture_key}
use Rattle.rm_report.specs.Report.{applies_at}
use Rattle.rm_report.proofs.counts.count_applicants.Given as goal

abbrev pub invariant-loop-d : goal.invariant-loop-d
invariant-loop-d l =
    AreMarked l.case (hospital_key l.case) (length l.case.roster.hospitals) l.d [] l.hospitals
    × AreMarked l.case (prefecture_key l.case) (length l.case.roster.prefectures) l.d [] l.prefectures
    × (l.country ≡ count_by (applies_at l.case (below (length l.case.roster.hospitals))) (below l.d))
