use Rattle.rm_case.proofs.TurnLemmas.{order_known}
use Rattle.rm_case.proofs.turns.greatest_capacity.Goals as goal

pub capacity-requires : goal.capacity-requires
capacity-requires c = order_known c.args.roster.now c.args.order.now c.loop-i.i 0 c.requires.order c.loop-i-test.true
