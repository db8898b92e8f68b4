use Rattle.std.proofs.Common.{All}
use Rattle.rm_sets.specs.Sets.{IsSetBelow}
use Rattle.rm_valuation.proofs.tests.groups.Given as goal

abbrev pub invariant-loop : goal.invariant-loop
invariant-loop l = All (λ g. IsSetBelow 1 g.items) l.groups.items
