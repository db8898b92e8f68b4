use Rattle.std.proofs.Common.{length, count_by}
use Rattle.rm_sets.specs.Sets.{below}
use Rattle.rm_report.specs.Counts.{AreEach}
use Rattle.rm_report.specs.Report.{has_place}
use Rattle.rm_report.proofs.counts.placed.Given as goal

abbrev pub invariant-loop-d : goal.invariant-loop-d
invariant-loop-d l = AreEach (length l.case.roster.hospitals) (λ h. count_by (has_place l.places h) (below l.d)) l.counts.items
