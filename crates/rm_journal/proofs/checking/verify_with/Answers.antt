use Rattle.std.proofs.Common.{rules, ◌∙◌, Some, None, refl, sym, ap, arith, get_or, length, length-set}
use Rattle.std.proofs.lemmas.List.{get_or_read, length-replicate}
use Rattle.rm_market.specs.declared.Outcome.TheVariants as out
use Rattle.rm_rounds.specs.Desk.{places_after}
use Rattle.rm_rounds.proofs.Turns.{same_desk}
use Rattle.rm_exchange.proofs.Rows.{written_back}
use Rattle.rm_journal.proofs.Checked.{fresh_desk, fresh_check, doctor_of, says_next, says_wrong, says_end, new_here, few_here, put_out_here, desk_here, check_more}
use Rattle.rm_journal.proofs.checking.verify_with.Goals as goal

pub loop-i-init : goal.loop-i-init
loop-i-init g c =
    let zeros = c.in_ok-spent.ensures.items_if_clones_equal (λ y h. h) in
    let nones = c.in_ok-places.ensures.items_if_clones_equal (λ y h. search rules) in
    record {
      desk = fresh_desk c.len.result c.len-2.result _ _ _ _ _ c.len.ensures.len c.len-2.ensures.len c.requires.empty zeros nones _ (let is = c.contracts.ensures in omega (arith, is)) c.requires.wishes;
      spent = ap length zeros ∙ length-replicate c.len.result 0 ∙ c.len.ensures.len;
      chosen = refl;
      check = fresh_check c.len.result c.len-2.result _ _ _ _ _ c.len.ensures.len c.len-2.ensures.len c.requires.empty zeros nones c.args.entries.now;
    }

pub returns-then-not-is_next : goal.returns-then-not-is_next
returns-then-not-is_next g c =
    let inv = c.loop-i.invariant in
    let doctor = doctor_of _ _ c.args.entries.now c.loop-i.i c.requires.wishes c.requires.contracts c.loop-i-test.true in
    says_next _ _ _ _ _ _ (g.met.H.Holder.lawful c.loop-i.holder) inv.desk inv.chosen c.args.entries.now c.loop-i.i
    c.loop-i-test.true inv.check doctor _ _ c.deref.ensures.value c.deref-in-loop-i.ensures.value _ c.is_next.ensures
    c.if-not-is_next.true

pub offer-outcome-requires-clause-new : goal.offer-outcome-requires-clause-new
offer-outcome-requires-clause-new g c =
    let inv = c.loop-i.invariant in
    let doctor = doctor_of _ _ c.args.entries.now c.loop-i.i c.requires.wishes c.requires.contracts c.loop-i-test.true in
    new_here _ _ _ _ _ _ (g.met.H.Holder.lawful c.loop-i.holder) inv.desk inv.chosen c.args.entries.now c.loop-i.i
    c.loop-i-test.true inv.check doctor _ _ c.deref.ensures.value c.deref-in-loop-i.ensures.value _ c.is_next.ensures
    c.if-not-is_next.false

pub returns-then-not-is_same : goal.returns-then-not-is_same
returns-then-not-is_same g c =
    let inv = c.loop-i.invariant in
    let doctor = doctor_of _ _ c.args.entries.now c.loop-i.i c.requires.wishes c.requires.contracts c.loop-i-test.true in
    says_wrong _ _ _ _ _ _ (g.met.H.Holder.lawful c.loop-i.holder) inv.desk inv.chosen c.args.entries.now c.loop-i.i
    c.loop-i-test.true inv.check doctor _ _ c.deref.ensures.value c.deref-in-loop-i.ensures.value _ c.is_next.ensures
    c.if-not-is_next.false _ _ c.offer-outcome.ensures.held c.offer-outcome.ensures.outcome (sym c.is_same.ensures ∙ c.if-not-is_same.true)

pub overflow_add-index_mut : goal.overflow_add-index_mut
overflow_add-index_mut g c =
    let inv = c.loop-i.invariant in
    let doctor = doctor_of _ _ c.args.entries.now c.loop-i.i c.requires.wishes c.requires.contracts c.loop-i-test.true in
    let below =
    few_here _ _ _ _ _ _ (g.met.H.Holder.lawful c.loop-i.holder) inv.desk inv.chosen c.args.entries.now c.loop-i.i
    c.loop-i-test.true inv.check doctor _ _ c.deref.ensures.value c.deref-in-loop-i.ensures.value _ c.is_next.ensures
    c.if-not-is_next.false in
    let long = inv.spent in
    let is = get_or_read c.loop-i.spent.items _ c.index_mut.result.now (omega (arith, doctor, long)) c.index_mut.ensures.value 0 in
    let few = inv.desk.few in
    omega (arith, is, below, few)

pub note_places-requires-clause-swapped : goal.note_places-requires-clause-swapped
note_places-requires-clause-swapped g c z is =
    let inv = c.loop-i.invariant in
    let doctor = doctor_of _ _ c.args.entries.now c.loop-i.i c.requires.wishes c.requires.contracts c.loop-i-test.true in
    (put_out_here _ _ _ _ _ _ (g.met.H.Holder.lawful c.loop-i.holder) inv.desk inv.chosen c.args.entries.now c.loop-i.i
    c.loop-i-test.true inv.check doctor _ _ c.deref.ensures.value c.deref-in-loop-i.ensures.value _ c.is_next.ensures
    c.if-not-is_next.false _ _ c.offer-outcome.ensures.held c.offer-outcome.ensures.outcome z is).0

pub loop-i-preserved : goal.loop-i-preserved
loop-i-preserved g c =
    let inv = c.loop-i.invariant in
    let x = (get_or c.args.entries.now c.loop-i.i (record { x = 0; outcome = out.Kept })).x in
    let d = get_or c.args.owners.now x 0 in
    let law = g.met.H.Holder.lawful c.loop-i.holder in
    let offer = c.offer-outcome.ensures in
    let doctor = doctor_of _ _ c.args.entries.now c.loop-i.i c.requires.wishes c.requires.contracts c.loop-i-test.true in
    let good = sym c.is_same.ensures ∙ c.if-not-is_same.false in
    let here =
    desk_here _ _ _ _ _ _ law inv.desk inv.chosen c.args.entries.now c.loop-i.i
    c.loop-i-test.true inv.check doctor _ _ c.deref.ensures.value c.deref-in-loop-i.ensures.value _ c.is_next.ensures
    c.if-not-is_next.false _ _ offer.held offer.outcome in
    let more =
    check_more _ _ _ _ _ _ law inv.desk inv.chosen c.args.entries.now c.loop-i.i
    c.loop-i-test.true inv.check doctor _ _ c.deref.ensures.value c.deref-in-loop-i.ensures.value _ c.is_next.ensures
    c.if-not-is_next.false _ _ offer.held offer.outcome good in
    let long = inv.spent in
    let count = get_or_read c.loop-i.spent.items d c.index_mut.result.now (omega (arith, doctor, long)) c.index_mut.ensures.value 0 in
    let noted = c.note_places.ensures ∙ ap (λ p. places_after c.args.owners.now p d x c.offer-outcome.result) c.deref_mut.ensures.value in
    let back = written_back c.loop-i.places.len c.note_places.new.places c.loop-i.places.items c.loop-i.places.ok.0 (ap length noted ∙ here.long ∙ sym inv.desk.long) in
    rw (back, noted, count) (record {
      desk = same_desk _ _ _ _ _ _ _ _ _ offer.count offer.chosen refl refl here;
      spent = length-set c.loop-i.spent.items _ _ ∙ inv.spent;
      chosen = offer.chosen ∙ inv.chosen;
      check = more;
    })

pub returns-in-None : goal.returns-in-None
returns-in-None g c =
    let inv = c.loop-i.invariant in
    says_end _ _ _ _ _ _ (g.met.H.Holder.lawful c.loop-i.holder) inv.desk inv.chosen c.args.entries.now c.loop-i.i
    c.loop-i-test.false inv.check _ _ c.deref-2.ensures.value c.deref-3.ensures.value None (rw c.in-None.is at c.first_to_offer.ensures)

pub returns : goal.returns
returns g c =
    let inv = c.loop-i.invariant in
    says_end _ _ _ _ _ _ (g.met.H.Holder.lawful c.loop-i.holder) inv.desk inv.chosen c.args.entries.now c.loop-i.i
    c.loop-i-test.false inv.check _ _ c.deref-2.ensures.value c.deref-3.ensures.value (Some c.in-Some.d) (rw c.in-Some.is at c.first_to_offer.ensures)
