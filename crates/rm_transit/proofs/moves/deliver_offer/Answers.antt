use Rattle.std.proofs.Common.{sym, ◌∙◌}
use Rattle.rm_transit.proofs.Events.{owner_low, swapped_low, offered_new, arrived_state, arrived_step}
use Rattle.rm_transit.proofs.moves.deliver_offer.Goals as goal

pub bounds-doctors-d : goal.bounds-doctors-d
bounds-doctors-d g c = owner_low _ _ _ c.args.doctors.now _ (g.met.H.Holder.lawful c.args.holder.now) c.requires.transit.1 c.args.x c.requires.contract

pub offer-outcome-requires-clause-new : goal.offer-outcome-requires-clause-new
offer-outcome-requires-clause-new g c =
    offered_new _ _ _ c.args.doctors.now _ (g.met.H.Holder.lawful c.args.holder.now) c.requires.transit.1 c.args.x c.requires.contract (sym c.is_offer.ensures ∙ c.if-not-is_offer.false)

pub note_outcome-requires-clause-swapped : goal.note_outcome-requires-clause-swapped
note_outcome-requires-clause-swapped g c z is =
    swapped_low _ _ _ (g.met.H.Holder.is_set c.args.holder.now) c.requires.transit.1.wishes.contracts c.args.x _ _ c.offer-outcome.ensures.outcome z is

pub note_outcome-requires-clause-other : goal.note_outcome-requires-clause-other
note_outcome-requires-clause-other g c z is =
    let low = swapped_low _ _ _ (g.met.H.Holder.is_set c.args.holder.now) c.requires.transit.1.wishes.contracts c.args.x _ _ c.offer-outcome.ensures.outcome z is in
    owner_low _ _ _ c.args.doctors.now _ (g.met.H.Holder.lawful c.args.holder.now) c.requires.transit.1 z low

pub returns-clause-state : goal.returns-clause-state
returns-clause-state g c =
    arrived_state _ _ _ c.args.doctors.now _ (g.met.H.Holder.lawful c.args.holder.now) c.requires.transit.1 c.args.x c.requires.contract (sym c.is_offer.ensures ∙ c.if-not-is_offer.false)
    _ _ _ c.offer-outcome.ensures.held c.offer-outcome.ensures.outcome c.note_outcome.ensures.signs c.note_outcome.ensures.spent

pub returns-clause-step : goal.returns-clause-step
returns-clause-step g c =
    arrived_step _ _ _ c.args.doctors.now _ (g.met.H.Holder.lawful c.args.holder.now) c.requires.transit.1 c.args.x c.requires.contract (sym c.is_offer.ensures ∙ c.if-not-is_offer.false)
    _ _ c.offer-outcome.ensures.held c.offer-outcome.ensures.outcome
