use Rattle.rm_rounds.specs.Desk.{desk_state}
use Rattle.rm_replay.proofs.Turns.{desk_played}
use Rattle.rm_replay.proofs.desk.play.Goals as goal

pub returns : goal.returns
returns g c =
    desk_played (g.H.Holder.chosen c.args.holder) _ _ _ c.args.board.now _ c.args.listed.now _ _ _ (desk_state g.H.Holder.held c.in_ok-desk.desk) (desk_state g.H.Holder.held c.take_turns.new.desk)
    (desk_state g.H.Holder.held c.close_all.new.self) c.args.order.now _ _ c.owners.ensures c.in_ok-desk.ensures.wishes c.in_ok-desk.ensures.state c.in_ok-desk.ensures.chosen
    c.in_ok-turns.ensures.turns c.in_ok-turns.ensures.state c.in_ok-turns.ensures.wishes c.in_ok-turns.ensures.chosen
    c.close_all.ensures.reached c.close_all.ensures.closed c.close_all.ensures.wishes c.close_all.ensures.chosen c.in_ok-places.ensures
