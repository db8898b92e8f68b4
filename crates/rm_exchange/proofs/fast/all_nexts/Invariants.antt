use Rattle.rm_exchange.proofs.Nexts.{AreNextsUpto}
use Rattle.rm_exchange.proofs.fast.all_nexts.Given as goal

abbrev pub invariant-loop-node : goal.invariant-loop-node
invariant-loop-node l = AreNextsUpto l.board l.counts l.nexts.items l.node
