use Rattle.std.proofs.Common.{◌∙◌, ap, length, arith, get_or, []}
use Rattle.rm_rounds.specs.Desk.{spent_each, place_each}
use Rattle.rm_rounds.proofs.Doctors.{count_places}
use Rattle.rm_rounds.proofs.Closing.{told_desk, can_offer_read}
use Rattle.rm_rounds.proofs.desk.Desk.can_offer.Goals as goal

pub has_offer-requires-clause-doctors : goal.has_offer-requires-clause-doctors
has_offer-requires-clause-doctors g c =
    let long = c.self.invariant.long in
    let count = count_places c.self.inside.doctors.items in
    let lt = c.requires.doctor in
    let f = ap (λ k. length k.wishes.listed) c.self.view_is in
    let len = ap length c.deref.ensures.value in
    omega (arith, long, count, lt, f, len)

pub returns : goal.returns
returns g c =
    let desk = told_desk g.H.Holder.count g.H.Holder.chosen g.H.Holder.held c.args.self.now _ _ _ _ _ c.self.view_is c.self.invariant in
    can_offer_read _ _ _ _ _ (g.met.H.Holder.lawful c.args.self.now.holder) desk c.args.d c.requires.doctor _ _ _ _
    (ap place_each c.deref.ensures.value) (ap spent_each c.deref.ensures.value ∙ ap (λ k. k.spent) c.self.view_is) (ap (λ k. get_or k.wishes.listed c.args.d []) c.self.view_is) c.has_offer.ensures
