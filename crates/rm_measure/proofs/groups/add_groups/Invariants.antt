use Rattle.std.proofs.Common.{◌≤◌, length, All}
use Rattle.rm_sets.specs.Sets.{IsSetBelow}
use Rattle.rm_measure.proofs.groups.add_groups.Given as goal

-- the number of the turn that is not named
abbrev pub invariant-loop : goal.invariant-loop
invariant-loop l = record {
  start : l.start ≤ 10_000;
  few : length l.groups.items ≤ 5_000;
  sets : All (λ g. IsSetBelow 10_000 g.items) l.groups.items;
}
