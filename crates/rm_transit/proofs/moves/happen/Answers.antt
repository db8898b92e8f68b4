use Rattle.std.proofs.Common.{refl}
use Rattle.rm_transit.proofs.Events.{next_transit, doctors_long, owner_low, list_short}
use Rattle.rm_transit.proofs.moves.happen.Goals as goal

pub send-requires-clause-long : goal.send-requires-clause-long
send-requires-clause-long g c = doctors_long _ _ _ c.args.doctors.now _ (g.met.H.Holder.lawful c.args.holder.now) c.requires.transit

pub send-requires-clause-few : goal.send-requires-clause-few
send-requires-clause-few g c = list_short _ _ _ _ c.requires.transit c.in-Send.d (rw c.in-Send.is at c.requires.event)

pub deliver_refusal-requires-clause-owner : goal.deliver_refusal-requires-clause-owner
deliver_refusal-requires-clause-owner g c = owner_low _ _ _ c.args.doctors.now _ (g.met.H.Holder.lawful c.args.holder.now) c.requires.transit c.in-Refusal.x (rw c.in-Refusal.is at c.requires.event)

pub returns-in-Send-clause-transit : goal.returns-in-Send-clause-transit
returns-in-Send-clause-transit g c =
    next_transit _ _ _ _ _ _ _ c.args.event (g.met.H.Holder.lawful c.args.holder.now) refl refl c.requires.transit (rw c.in-Send.is (c.send.ensures.state (g.H.Holder.chosen c.args.holder.now) c.args.owners.now (g.H.Holder.held c.args.holder.now)))

pub returns-in-Send-clause-state : goal.returns-in-Send-clause-state
returns-in-Send-clause-state g c = rw c.in-Send.is (c.send.ensures.state (g.H.Holder.chosen c.args.holder.now) c.args.owners.now (g.H.Holder.held c.args.holder.now))

pub returns-in-Send-clause-step : goal.returns-in-Send-clause-step
returns-in-Send-clause-step g c = rw c.in-Send.is (c.send.ensures.step (g.H.Holder.chosen c.args.holder.now) c.args.owners.now (g.H.Holder.held c.args.holder.now))

pub returns-in-Offer-clause-transit : goal.returns-in-Offer-clause-transit
returns-in-Offer-clause-transit g c =
    next_transit _ _ _ _ _ _ _ c.args.event (g.met.H.Holder.lawful c.args.holder.now) c.deliver_offer.ensures.count c.deliver_offer.ensures.chosen c.requires.transit
    (rw c.in-Offer.is c.deliver_offer.ensures.state)

pub returns-in-Refusal-clause-transit : goal.returns-in-Refusal-clause-transit
returns-in-Refusal-clause-transit g c =
    next_transit _ _ _ _ _ _ _ c.args.event (g.met.H.Holder.lawful c.args.holder.now) refl refl c.requires.transit (rw c.in-Refusal.is (c.deliver_refusal.ensures.state (g.H.Holder.chosen c.args.holder.now) c.args.listed.now (g.H.Holder.held c.args.holder.now)))

pub returns-in-Refusal-clause-state : goal.returns-in-Refusal-clause-state
returns-in-Refusal-clause-state g c = rw c.in-Refusal.is (c.deliver_refusal.ensures.state (g.H.Holder.chosen c.args.holder.now) c.args.listed.now (g.H.Holder.held c.args.holder.now))

pub returns-in-Refusal-clause-step : goal.returns-in-Refusal-clause-step
returns-in-Refusal-clause-step g c = rw c.in-Refusal.is (c.deliver_refusal.ensures.step (g.H.Holder.chosen c.args.holder.now) c.args.listed.now (g.H.Holder.held c.args.holder.now))
