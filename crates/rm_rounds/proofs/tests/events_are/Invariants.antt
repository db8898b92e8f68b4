use Rattle.std.proofs.Common.{◌≡◌}
use Rattle.rm_rounds.proofs.tests.events_are.Given as goal

abbrev pub invariant-loop-event : goal.invariant-loop-event
invariant-loop-event g l = l.desk.wishes ≡ l.initial.desk.wishes
