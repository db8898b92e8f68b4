use Rattle.std.proofs.Common.{◌≡◌}
use Rattle.rm_transit.proofs.tests.rows_are.Given as goal

abbrev pub invariant-loop-row : goal.invariant-loop-row
invariant-loop-row g l = l.transit.wishes ≡ l.initial.transit.wishes
