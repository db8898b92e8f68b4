use Rattle.rm_case.proofs.TurnLemmas.{order_known}
use Rattle.rm_case.proofs.case_regions.seats_of.Goals as goal

pub target-requires : goal.target-requires
target-requires c = order_known c.args.roster.now c.args.order.now c.loop-i.i 0 c.requires c.loop-i-test.true

pub capacity-requires : goal.capacity-requires
capacity-requires c = order_known c.args.roster.now c.args.order.now c.loop-i.i 0 c.requires c.loop-i-test.true
