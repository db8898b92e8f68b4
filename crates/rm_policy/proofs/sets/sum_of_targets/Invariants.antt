use Rattle.std.proofs.Common.{◌≡◌, ◌*◌, ◌^◌, ◌≤◌, take}
use Rattle.rm_policy.specs.Prefectures.{sum_of_targets}
use Rattle.rm_policy.proofs.sets.sum_of_targets.Given as goal

abbrev pub invariant-loop-i : goal.invariant-loop-i
invariant-loop-i l = (l.total ≡ sum_of_targets l.roster (take l.i l.hospitals)) × (l.total ≤ l.i * 2 ^ 32)
