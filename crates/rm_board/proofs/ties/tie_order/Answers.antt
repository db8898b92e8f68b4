use Rattle.rm_board.proofs.RuleOrders.{rank-orders, hospital-orders, listed-orders}
use Rattle.rm_board.proofs.ties.tie_order.Goals as goal

pub returns-in-Ok : goal.returns-in-Ok
returns-in-Ok c = rank-orders c.args.contracts.now c.args.rule c.in-Ok.order c.in-ByRank.is c.in-Ok.ensures

pub returns-in-Ok-by_hospital : goal.returns-in-Ok-by_hospital
returns-in-Ok-by_hospital c = hospital-orders c.args.contracts.now c.args.rule c.in-Ok-by_hospital.order c.in-ByHospital.is c.in-Ok-by_hospital.ensures

pub returns-in-Listed : goal.returns-in-Listed
returns-in-Listed c = listed-orders c.args.contracts.now c.args.rule c.in-Listed.pairs c.listed_order.result c.in-Listed.is c.listed_order.ensures
