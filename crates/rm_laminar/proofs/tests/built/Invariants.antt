use Rattle.std.proofs.Common.{◌≤◌, All, length}
use Rattle.rm_sets.specs.Sets.{IsSetBelow}
use Rattle.rm_laminar.proofs.tests.built.Given as goal

abbrev pub invariant-loop-group : goal.invariant-loop-group
invariant-loop-group l = (length l.sets.items ≤ 5000) × All (λ g. IsSetBelow l.hospitals g.items) l.sets.items
