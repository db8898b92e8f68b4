use Rattle.std.proofs.Common.{◌≡◌, length, All}
use Rattle.rm_market.specs.Steps.{AreSteps}
use Rattle.rm_exchange.proofs.fast.tests.steps_of.Given as goal

abbrev pub invariant-loop-i : goal.invariant-loop-i
invariant-loop-i l = (length l.nodes.items ≡ l.i) × All AreSteps l.nodes.items
