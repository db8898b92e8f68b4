use Rattle.std.proofs.Common.{◌∙◌, arith}
use Rattle.std.proofs.lemmas.List.{length-set}
use Rattle.rm_case.proofs.TurnLemmas.{given_one, order_known, order_short}
use Rattle.rm_case.proofs.turns.give_turns.Goals as goal

pub overflow_cast-order : goal.overflow_cast-order
overflow_cast-order c = omega (arith, order_short c.args.roster.now c.args.order.now c.requires.roster c.requires.order)

pub overflow_cast-i : goal.overflow_cast-i
overflow_cast-i c = omega (arith, c.loop-i-test.true, order_short c.args.roster.now c.args.order.now c.requires.roster c.requires.order)

pub overflow_add-i : goal.overflow_add-i
overflow_add-i c = omega (arith, c.loop-i-test.true, order_short c.args.roster.now c.args.order.now c.requires.roster c.requires.order)

pub index_mut-requires : goal.index_mut-requires
index_mut-requires c =
    omega (arith, order_known c.args.roster.now c.args.order.now c.loop-i.i 0 c.requires.order c.loop-i-test.true, c.loop-i.invariant.0, c.requires.each, c.loop-i.turns.ok.0)

pub loop-i-preserved : goal.loop-i-preserved
loop-i-preserved c = (
  length-set c.loop-i.turns.items _ _ ∙ c.loop-i.invariant.0,
  given_one c.args.roster.now c.args.order.now c.args.turns.now.items c.loop-i.turns.items c.loop-i.i c.full_worth-full.result c.requires.order c.loop-i-test.true c.full_worth-full.ensures.full
      (c.loop-i.invariant.0 ∙ c.requires.each) c.loop-i.invariant.1,
)
