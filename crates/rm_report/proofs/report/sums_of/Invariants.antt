use Rattle.std.proofs.Common.{◌≡◌, ◌≤◌, ◌*◌, ◌^◌, get_or, sum_by, take}
use Rattle.rm_report.proofs.report.sums_of.Given as goal

abbrev pub invariant-loop-i : goal.invariant-loop-i
invariant-loop-i l =
    (l.capacity ≡ sum_by (λ h. get_or l.report.case.now.roster.capacities h 0) (take l.i l.hospitals)) × (l.capacity ≤ l.i * 2 ^ 32)
    × (l.target ≡ sum_by (λ h. get_or l.report.case.now.roster.targets h 0) (take l.i l.hospitals)) × (l.target ≤ l.i * 2 ^ 32)
    × (l.placed ≡ sum_by (λ h. get_or l.report.counts.placed.items h 0) (take l.i l.hospitals)) × (l.placed ≤ l.i * 2 ^ 32)
    × (l.first ≡ sum_by (λ h. get_or l.report.counts.first.items h 0) (take l.i l.hospitals)) × (l.first ≤ l.i * 2 ^ 32)
