use Rattle.std.proofs.Common.{◌≡◌}
use Rattle.rm_sets.specs.Sets.{below}
use Rattle.rm_exchange.proofs.fast.tests.first.Given as goal

abbrev pub invariant-loop-h : goal.invariant-loop-h
invariant-loop-h l = l.group.items ≡ below l.h
