use Rattle.rm_exchange.proofs.Chain.{IsMending}
use Rattle.rm_exchange.proofs.holding.mend.Given as goal

abbrev pub invariant-loop-i : goal.invariant-loop-i
invariant-loop-i l = IsMending l.board l.places l.fn.holding l.holding l.x l.chain l.i l.best
