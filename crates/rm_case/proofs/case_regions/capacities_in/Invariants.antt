use Rattle.std.proofs.Common.{◌≡◌, ◌*◌, ◌≤◌, get_or, take}
use Rattle.std.specs.Prelude.{sum_by}
use Rattle.rm_case.proofs.case_regions.capacities_in.Given as goal

abbrev pub invariant-loop-i : goal.invariant-loop-i
invariant-loop-i l = (l.total ≡ sum_by (λ h. get_or l.roster.capacities h 0) (take l.i l.hospitals)) × (l.total ≤ l.i * 10000)
