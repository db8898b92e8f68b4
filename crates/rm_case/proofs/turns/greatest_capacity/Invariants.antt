use Rattle.std.proofs.Common.{◌≡◌, ◌≤◌, take}
use Rattle.rm_market.specs.Flexible.{greatest_capacity_of}
use Rattle.rm_case.specs.NodeSteps.{seats_region}
use Rattle.rm_case.proofs.turns.greatest_capacity.Given as goal

abbrev pub invariant-loop-i : goal.invariant-loop-i
invariant-loop-i l = (l.greatest ≡ greatest_capacity_of (seats_region l.roster (take l.i l.order))) × (l.greatest ≤ 10000)
