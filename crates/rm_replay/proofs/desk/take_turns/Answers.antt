use Rattle.std.proofs.Common.{◌∙◌}
use Rattle.rm_rounds.specs.Desk.{desk_state}
use Rattle.rm_replay.proofs.Turns.{order_run, order_turns}
use Rattle.rm_replay.proofs.desk.take_turns.Goals as goal

pub loop-i-preserved : goal.loop-i-preserved
loop-i-preserved g c =
    let s = desk_state g.H.Holder.held c.args.desk.now in
    let now = desk_state g.H.Holder.held c.loop-i.desk in
    let inv = c.loop-i.invariant in
    record {
      turns = order_turns _ _ _ _ s now c.args.order.now _ _ _ c.loop-i.i c.loop-i-test.true inv.chosen inv.wishes inv.state inv.turns c.offer-turn.ensures.turn c.in_ok-push.ensures.items;
      state = order_run _ _ _ _ s now _ c.args.order.now c.loop-i.i c.loop-i-test.true inv.chosen inv.wishes inv.state c.offer-turn.ensures.state;
      wishes = c.offer-turn.ensures.wishes ∙ inv.wishes;
      chosen = c.offer-turn.ensures.chosen ∙ inv.chosen;
    }
