use Rattle.std.proofs.Common.{◌≡◌, length, All}
use Rattle.rm_sets.specs.Sets.{IsSetBelow}
use Rattle.rm_exchange.proofs.fast.tests.nested.Given as goal

abbrev pub invariant-loop-i : goal.invariant-loop-i
invariant-loop-i l = (length l.groups.items ≡ l.i) × All (λ g. IsSetBelow l.hospitals g.items) l.groups.items
