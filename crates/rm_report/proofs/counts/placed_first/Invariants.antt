use Rattle.std.proofs.Common.{length, count_by, ◌&&◌}
use Rattle.rm_sets.specs.Sets.{below}
use Rattle.rm_report.specs.Counts.{AreEach}
use Rattle.rm_report.specs.Report.{has_place, has_first}
use Rattle.rm_report.proofs.counts.placed_first.Given as goal

abbrev pub invariant-loop-d : goal.invariant-loop-d
invariant-loop-d l = AreEach (length l.case.roster.hospitals) (λ h. count_by (λ d. has_place l.places h d && has_first l.case h d) (below l.d)) l.counts.items
