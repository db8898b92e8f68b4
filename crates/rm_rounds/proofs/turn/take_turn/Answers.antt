use Rattle.std.proofs.Common.{◌∙◌, sym, ap, arith, is_some, length-set}
use Rattle.rm_rounds.specs.Desk.{state}
use Rattle.rm_rounds.proofs.Doctors.{spent_at, place_at, spent_after, places_then, count_places}
use Rattle.rm_rounds.proofs.Turns.{done_state, done, offered_below, spent_below, offered_new, offer_state, offer_turn, offer_desk, swapped_below, same_desk}
use Rattle.rm_rounds.proofs.turn.take_turn.Goals as goal

pub bounds-doctors-d : goal.bounds-doctors-d
bounds-doctors-d g c =
    let long = sym (count_places c.args.doctors.now) ∙ c.requires.desk.long in
    let lt = c.requires.doctor in
    omega (arith, long, lt)

pub returns-then-k-list-clause-state : goal.returns-then-k-list-clause-state
returns-then-k-list-clause-state g c =
    let e = spent_at c.args.doctors.now c.args.d in
    let free = ap is_some (place_at c.args.doctors.now c.args.d) ∙ sym c.is_some.ensures ∙ c.if-is_some.false in
    done_state _ _ _ _ _ (g.met.H.Holder.lawful c.args.holder.now) c.requires.desk c.args.d c.requires.doctor free _ c.list-list.ensures (rw (← e) at c.if-k-list.true)

pub returns-then-k-list-clause-turn : goal.returns-then-k-list-clause-turn
returns-then-k-list-clause-turn g c =
    let e = spent_at c.args.doctors.now c.args.d in
    let free = ap is_some (place_at c.args.doctors.now c.args.d) ∙ sym c.is_some.ensures ∙ c.if-is_some.false in
    done _ _ _ _ _ (g.met.H.Holder.lawful c.args.holder.now) c.requires.desk c.args.d c.requires.doctor free _ c.list-list.ensures (rw (← e) at c.if-k-list.true)

pub offer-outcome-requires-clause-contract : goal.offer-outcome-requires-clause-contract
offer-outcome-requires-clause-contract g c =
    let e = spent_at c.args.doctors.now c.args.d in
    let free = ap is_some (place_at c.args.doctors.now c.args.d) ∙ sym c.is_some.ensures ∙ c.if-is_some.false in
    let lt = rw (← e) at c.if-k-list.false in
    rw (← e) (offered_below _ _ _ _ _ (g.met.H.Holder.lawful c.args.holder.now) c.requires.desk c.args.d c.requires.doctor free _ c.list-list.ensures lt)

pub offer-outcome-requires-clause-new : goal.offer-outcome-requires-clause-new
offer-outcome-requires-clause-new g c =
    let e = spent_at c.args.doctors.now c.args.d in
    let free = ap is_some (place_at c.args.doctors.now c.args.d) ∙ sym c.is_some.ensures ∙ c.if-is_some.false in
    let lt = rw (← e) at c.if-k-list.false in
    rw (← e) (offered_new _ _ _ _ _ (g.met.H.Holder.lawful c.args.holder.now) c.requires.desk c.args.d c.requires.doctor free _ c.list-list.ensures lt)

pub overflow_add-doctors : goal.overflow_add-doctors
overflow_add-doctors g c =
    let e = spent_at c.args.doctors.now c.args.d in
    let free = ap is_some (place_at c.args.doctors.now c.args.d) ∙ sym c.is_some.ensures ∙ c.if-is_some.false in
    let lt = rw (← e) at c.if-k-list.false in
    let below = spent_below _ _ _ _ _ (g.met.H.Holder.lawful c.args.holder.now) c.requires.desk c.args.d c.requires.doctor free _ c.list-list.ensures lt in
    let few = c.requires.desk.few in
    omega (arith, e, below, few)

pub note_places-requires-clause-swapped : goal.note_places-requires-clause-swapped
note_places-requires-clause-swapped g c z is =
    let e = spent_at c.args.doctors.now c.args.d in
    let free = ap is_some (place_at c.args.doctors.now c.args.d) ∙ sym c.is_some.ensures ∙ c.if-is_some.false in
    let lt = rw (← e) at c.if-k-list.false in
    (swapped_below _ _ _ _ _ (g.met.H.Holder.lawful c.args.holder.now) c.requires.desk c.args.d c.requires.doctor free _ c.list-list.ensures lt
    _ _ (rw (← e) at c.offer-outcome.ensures.outcome) z is).0

pub note_places-requires-clause-owner : goal.note_places-requires-clause-owner
note_places-requires-clause-owner g c z is =
    let e = spent_at c.args.doctors.now c.args.d in
    let free = ap is_some (place_at c.args.doctors.now c.args.d) ∙ sym c.is_some.ensures ∙ c.if-is_some.false in
    let lt = rw (← e) at c.if-k-list.false in
    let within = (swapped_below _ _ _ _ _ (g.met.H.Holder.lawful c.args.holder.now) c.requires.desk c.args.d c.requires.doctor free _ c.list-list.ensures lt
    _ _ (rw (← e) at c.offer-outcome.ensures.outcome) z is).1
    in
    let long = sym (count_places c.args.doctors.now) ∙ c.requires.desk.long in
    rw (length-set c.args.doctors.now c.args.d) (omega (arith, within, long))

pub returns-clause-desk : goal.returns-clause-desk
returns-clause-desk g c =
    let e = spent_at c.args.doctors.now c.args.d in
    let free = ap is_some (place_at c.args.doctors.now c.args.d) ∙ sym c.is_some.ensures ∙ c.if-is_some.false in
    let lt = rw (← e) at c.if-k-list.false in
    same_desk _ _ _ _ _ _ _ _ _ c.offer-outcome.ensures.count c.offer-outcome.ensures.chosen
    (ap (λ S. state S (g.H.Holder.held c.offer-outcome.new.self)) (spent_after c.args.doctors.now c.args.d _ c.note_places.ensures.spent))
    (places_then c.args.doctors.now c.args.d _ _ _ _ c.note_places.ensures.places)
    (offer_desk _ _ _ _ _ (g.met.H.Holder.lawful c.args.holder.now) c.requires.desk c.args.d c.requires.doctor free _ c.list-list.ensures lt
    _ (rw (← e) at c.offer-outcome.ensures.held) _ (rw (← e) at c.offer-outcome.ensures.outcome))

pub returns-clause-state : goal.returns-clause-state
returns-clause-state g c =
    let e = spent_at c.args.doctors.now c.args.d in
    let free = ap is_some (place_at c.args.doctors.now c.args.d) ∙ sym c.is_some.ensures ∙ c.if-is_some.false in
    let lt = rw (← e) at c.if-k-list.false in
    ap (λ S. state S (g.H.Holder.held c.offer-outcome.new.self)) (spent_after c.args.doctors.now c.args.d _ c.note_places.ensures.spent)
    ∙ offer_state _ _ _ _ _ (g.met.H.Holder.lawful c.args.holder.now) c.requires.desk c.args.d c.requires.doctor free _ c.list-list.ensures lt
    _ (rw (← e) at c.offer-outcome.ensures.held)

pub returns-clause-turn : goal.returns-clause-turn
returns-clause-turn g c =
    let e = spent_at c.args.doctors.now c.args.d in
    let free = ap is_some (place_at c.args.doctors.now c.args.d) ∙ sym c.is_some.ensures ∙ c.if-is_some.false in
    let lt = rw (← e) at c.if-k-list.false in
    rw (← e)
    (offer_turn _ _ _ _ _ (g.met.H.Holder.lawful c.args.holder.now) c.requires.desk c.args.d c.requires.doctor free _ c.list-list.ensures lt
    _ _ (rw (← e) at c.offer-outcome.ensures.held) (rw (← e) at c.offer-outcome.ensures.outcome))
