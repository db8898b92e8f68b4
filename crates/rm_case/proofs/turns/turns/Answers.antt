use Rattle.std.proofs.Common.{◌∙◌, ◌<◌, ap, arith, length, subst, sym}
use Rattle.rm_case.specs.NodeSteps.{AreSome}
use Rattle.rm_case.proofs.TurnLemmas.{some_in_order, turned_one, all_turned}
use Rattle.rm_case.proofs.turns.turns.Goals as goal

pub give_turns-requires-clause-order : goal.give_turns-requires-clause-order
give_turns-requires-clause-order c =
    let lq : c.loop-q.q < length c.args.roster.now.prefectures = omega (arith, c.loop-q-test.true, c.len-q-end.ensures.count, ap length c.prefectures.ensures.prefectures) in
    subst (AreSome c.args.roster.now) (sym c.order_of.ensures) (some_in_order c.args.roster.now c.args.policy.now c.loop-q.q c.requires lq)

pub loop-q-preserved : goal.loop-q-preserved
loop-q-preserved c =
    let lq : c.loop-q.q < length c.args.roster.now.prefectures = omega (arith, c.loop-q-test.true, c.len-q-end.ensures.count, ap length c.prefectures.ensures.prefectures) in (
      c.give_turns.ensures.each ∙ c.loop-q.invariant.0,
      turned_one c.args.roster.now c.args.policy.now c.loop-q.turns.items c.give_turns.new.turns.items c.loop-q.q c.order_of.result.now c.requires lq c.order_of.ensures c.loop-q.invariant.1 c.give_turns.ensures.turns,
    )

pub returns : goal.returns
returns c =
    all_turned c.args.roster.now c.args.policy.now c.loop-q.turns.items c.loop-q.q (record { full = 0; hospitals = 0; place = 0 }) c.hospitals.ensures.roster
    (omega (arith, c.loop-q-test.false, c.len-q-end.ensures.count, ap length c.prefectures.ensures.prefectures)) c.loop-q.invariant.0 c.loop-q.invariant.1
