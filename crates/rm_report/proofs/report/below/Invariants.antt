use Rattle.std.proofs.Common.{◌≡◌}
use Rattle.rm_sets.specs.Sets.{below}
use Rattle.rm_report.proofs.report.below.Given as goal

abbrev pub invariant-loop-k : goal.invariant-loop-k
invariant-loop-k l = l.numbers.items ≡ below l.k
