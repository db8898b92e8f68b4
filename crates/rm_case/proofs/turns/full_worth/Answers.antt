use Rattle.std.proofs.Common.{arith}
use Rattle.rm_case.proofs.TurnLemmas.{order_short, worth_fits}
use Rattle.rm_case.proofs.turns.full_worth.Goals as goal

pub overflow_cast-result : goal.overflow_cast-result
overflow_cast-result c = omega (arith, order_short c.args.roster.now c.args.order.now c.requires.roster c.requires.order)

pub overflow_mul-result : goal.overflow_mul-result
overflow_mul-result c = omega (arith, worth_fits c.args.roster.now c.args.order.now c.greatest_capacity.result c.requires.roster c.requires.order c.greatest_capacity.ensures.few)

pub overflow_add-result : goal.overflow_add-result
overflow_add-result c = omega (arith, worth_fits c.args.roster.now c.args.order.now c.greatest_capacity.result c.requires.roster c.requires.order c.greatest_capacity.ensures.few)

pub returns-clause-bounded : goal.returns-clause-bounded
returns-clause-bounded c = omega (arith, worth_fits c.args.roster.now c.args.order.now c.greatest_capacity.result c.requires.roster c.requires.order c.greatest_capacity.ensures.few)
