use Rattle.std.proofs.Common.{◌<◌, ap, arith, length}
use Rattle.rm_case.proofs.TurnLemmas.{steps_pushed, turn_fits, turn_is, turns_long}
use Rattle.rm_case.proofs.node_steps.flexible_steps.Goals as goal

pub index-requires : goal.index-requires
index-requires c =
    omega (arith, c.loop-h-test.true, c.len-h-end.ensures.count, ap length c.hospitals.ensures.hospitals, c.in_ok-turns.turns.ok.0, turns_long c.args.roster.now c.args.policy.now c.in_ok-turns.turns.items c.in_ok-turns.ensures)

pub turn_steps-requires : goal.turn_steps-requires
turn_steps-requires c =
    let lt : c.loop-h.h < length c.args.roster.now.hospitals = omega (arith, c.loop-h-test.true, c.len-h-end.ensures.count, ap length c.hospitals.ensures.hospitals) in
    rw (turn_is c.args.roster.now c.args.policy.now c.in_ok-turns.turns.items c.loop-h.h c.index.result.now c.in_ok-turns.ensures lt c.index.ensures, c.target.ensures, c.capacity.ensures)
    (turn_fits c.args.roster.now c.args.policy.now c.loop-h.h c.hospitals.ensures.roster c.requires lt)

pub loop-h-preserved : goal.loop-h-preserved
loop-h-preserved c =
    let lt : c.loop-h.h < length c.args.roster.now.hospitals = omega (arith, c.loop-h-test.true, c.len-h-end.ensures.count, ap length c.hospitals.ensures.hospitals) in
    steps_pushed c.args.roster.now c.args.policy.now c.loop-h.steps.items c.push.new.self.items c.loop-h.h c.target.result c.capacity.result c.index.result.now c.in_ok-own.own c.hospitals.ensures.roster
    c.requires lt c.loop-h.invariant c.in_ok-push.ensures.items c.in_ok-own.ensures
    (turn_is c.args.roster.now c.args.policy.now c.in_ok-turns.turns.items c.loop-h.h c.index.result.now c.in_ok-turns.ensures lt c.index.ensures) c.target.ensures c.capacity.ensures
