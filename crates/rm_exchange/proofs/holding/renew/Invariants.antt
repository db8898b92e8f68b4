use Rattle.rm_exchange.specs.Holding.{AreNexts}
use Rattle.rm_exchange.proofs.Mending.{is_mended}
use Rattle.rm_exchange.proofs.holding.renew.Given as goal

abbrev pub invariant-loop-i : goal.invariant-loop-i
invariant-loop-i l = AreNexts l.board (is_mended l.chain l.i) l.counts l.nexts.items
