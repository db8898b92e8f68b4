use Rattle.std.proofs.Common.{ap, length, refl, arith}
use Rattle.rm_transit.proofs.Rest.{mark_told, has_next, no_next}
use Rattle.rm_transit.proofs.Events.{doctors_long}
use Rattle.rm_transit.proofs.transit.Transit.mark.Goals as goal

pub index-requires : goal.index-requires
index-requires g c =
    let long = doctors_long _ _ _ c.self.inside.doctors.items _ (g.met.H.Holder.lawful c.self.inside.holder) c.self.invariant in
    let lt = c.requires.doctor in
    let f = ap (λ k. length k.wishes.listed) c.self.view_is in
    omega (arith, long, lt, f)

pub returns-in-Offer : goal.returns-in-Offer
returns-in-Offer g c =
    let long = doctors_long _ _ _ c.self.inside.doctors.items _ (g.met.H.Holder.lawful c.self.inside.holder) c.self.invariant in
    let lt = c.requires.doctor in
    let f = ap (λ k. length k.wishes.listed) c.self.view_is in
    mark_told g.H.Holder.count g.H.Holder.chosen g.H.Holder.held c.args.self.now _ _ c.self.inside.doctors.items _ c.self.view_is _ c.args.d (omega (arith, long, lt, f)) c.index.ensures _ c.in-Offer.is _ refl

pub returns-in-Held : goal.returns-in-Held
returns-in-Held g c =
    let long = doctors_long _ _ _ c.self.inside.doctors.items _ (g.met.H.Holder.lawful c.self.inside.holder) c.self.invariant in
    let lt = c.requires.doctor in
    let f = ap (λ k. length k.wishes.listed) c.self.view_is in
    mark_told g.H.Holder.count g.H.Holder.chosen g.H.Holder.held c.args.self.now _ _ c.self.inside.doctors.items _ c.self.view_is _ c.args.d (omega (arith, long, lt, f)) c.index.ensures _ c.in-Held.is _ refl

pub returns-in-Refusal : goal.returns-in-Refusal
returns-in-Refusal g c =
    let long = doctors_long _ _ _ c.self.inside.doctors.items _ (g.met.H.Holder.lawful c.self.inside.holder) c.self.invariant in
    let lt = c.requires.doctor in
    let f = ap (λ k. length k.wishes.listed) c.self.view_is in
    mark_told g.H.Holder.count g.H.Holder.chosen g.H.Holder.held c.args.self.now _ _ c.self.inside.doctors.items _ c.self.view_is _ c.args.d (omega (arith, long, lt, f)) c.index.ensures _ c.in-Refusal.is _ refl

pub returns-then-spent-list : goal.returns-then-spent-list
returns-then-spent-list g c =
    let long = doctors_long _ _ _ c.self.inside.doctors.items _ (g.met.H.Holder.lawful c.self.inside.holder) c.self.invariant in
    let lt = c.requires.doctor in
    let f = ap (λ k. length k.wishes.listed) c.self.view_is in
    mark_told g.H.Holder.count g.H.Holder.chosen g.H.Holder.held c.args.self.now _ _ c.self.inside.doctors.items _ c.self.view_is _ c.args.d (omega (arith, long, lt, f)) c.index.ensures _ c.in-Empty.is _ (has_next _ _ (rw c.list.ensures at c.if-spent-list.true))

pub returns-else-spent-list : goal.returns-else-spent-list
returns-else-spent-list g c =
    let long = doctors_long _ _ _ c.self.inside.doctors.items _ (g.met.H.Holder.lawful c.self.inside.holder) c.self.invariant in
    let lt = c.requires.doctor in
    let f = ap (λ k. length k.wishes.listed) c.self.view_is in
    mark_told g.H.Holder.count g.H.Holder.chosen g.H.Holder.held c.args.self.now _ _ c.self.inside.doctors.items _ c.self.view_is _ c.args.d (omega (arith, long, lt, f)) c.index.ensures _ c.in-Empty.is _ (no_next _ _ (rw c.list.ensures at c.if-spent-list.false))
