use Rattle.std.proofs.Common.{◌≤◌, length, All}
use Rattle.rm_sets.specs.Sets.{IsSetBelow}
use Rattle.rm_measure.proofs.groups.nested_groups.Given as goal

abbrev pub invariant-loop-size : goal.invariant-loop-size
invariant-loop-size l = (length l.groups.items ≤ 5_000) × All (λ g. IsSetBelow 10_000 g.items) l.groups.items
