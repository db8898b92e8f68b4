use Rattle.std.proofs.Common.{◌∙◌, arith}
use Rattle.rm_choice.proofs.Offers.{ready_first}
use Rattle.rm_choice.proofs.choice_holder.ChoiceHolder.open.Goals as goal

pub invariant_of-result : goal.invariant_of-result
invariant_of-result g c =
    let room = c.in_ok-room.ensures in
    let e = c.contracts-contracts.ensures in
    let f = c.nodes.ensures in
    record { ready = ready_first _ _ _ (g.met.C.Choice.lawful c.args.choice) _ _ _ c.in_ok-list.ensures.items (c.in_ok-list.ensures.exact ∙ e) (omega (arith, e, room.contracts), omega (arith, f, room.nodes)) }
