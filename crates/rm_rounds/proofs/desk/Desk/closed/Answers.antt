use Rattle.std.proofs.Common.{◌∙◌, ap, sym, length, arith, ⊎_elim}
use Rattle.std.proofs.lemmas.Bool.{cases_eq}
use Rattle.rm_matching_laws.proofs.ClosedRuns.{none_from}
use Rattle.rm_rounds.proofs.Closing.{told_desk, open_test, closed_test, all_settled, closed_optimal, held_is_chosen, refused_nowhere}
use Rattle.rm_rounds.proofs.desk.Desk.closed.Goals as goal

pub returns-then-can_offer-clause-closed : goal.returns-then-can_offer-clause-closed
returns-then-can_offer-clause-closed g c =
    open_test _ _ _ _ _ (g.met.H.Holder.lawful c.args.self.now.holder) (told_desk g.H.Holder.count g.H.Holder.chosen g.H.Holder.held c.args.self.now _ _ _ _ _ c.self.view_is c.self.invariant)
    c.loop-d.d (sym c.can_offer.ensures ∙ c.if-can_offer.true)

pub returns-then-can_offer-clause-held : goal.returns-then-can_offer-clause-held
returns-then-can_offer-clause-held g c =
    held_is_chosen _ _ _ _ _ (g.met.H.Holder.lawful c.args.self.now.holder) (told_desk g.H.Holder.count g.H.Holder.chosen g.H.Holder.held c.args.self.now _ _ _ _ _ c.self.view_is c.self.invariant)

pub returns-then-can_offer-clause-refused : goal.returns-then-can_offer-clause-refused
returns-then-can_offer-clause-refused g c =
    refused_nowhere _ _ _ _ _ (g.met.H.Holder.lawful c.args.self.now.holder) (told_desk g.H.Holder.count g.H.Holder.chosen g.H.Holder.held c.args.self.now _ _ _ _ _ c.self.view_is c.self.invariant)

pub returns-clause-closed : goal.returns-clause-closed
returns-clause-closed g c =
    let desk = told_desk g.H.Holder.count g.H.Holder.chosen g.H.Holder.held c.args.self.now _ _ _ _ _ c.self.view_is c.self.invariant in
    let law = g.met.H.Holder.lawful c.args.self.now.holder in
    let f = ap (λ k. length k.wishes.listed) c.self.view_is in
    let len = c.len-d-end.ensures in
    closed_test _ _ _ _ _ law desk (all_settled _ _ _ _ _ law desk _ (λ d lt. c.loop-d.invariant d (omega (arith, lt, f, len))))

pub returns-clause-optimal : goal.returns-clause-optimal
returns-clause-optimal g c _ =
    let desk = told_desk g.H.Holder.count g.H.Holder.chosen g.H.Holder.held c.args.self.now _ _ _ _ _ c.self.view_is c.self.invariant in
    let law = g.met.H.Holder.lawful c.args.self.now.holder in
    let f = ap (λ k. length k.wishes.listed) c.self.view_is in
    let len = c.len-d-end.ensures in
    closed_optimal _ _ _ _ _ law desk (all_settled _ _ _ _ _ law desk _ (λ d lt. c.loop-d.invariant d (omega (arith, lt, f, len))))

pub returns-clause-held : goal.returns-clause-held
returns-clause-held g c =
    held_is_chosen _ _ _ _ _ (g.met.H.Holder.lawful c.args.self.now.holder) (told_desk g.H.Holder.count g.H.Holder.chosen g.H.Holder.held c.args.self.now _ _ _ _ _ c.self.view_is c.self.invariant)

pub returns-clause-refused : goal.returns-clause-refused
returns-clause-refused g c =
    refused_nowhere _ _ _ _ _ (g.met.H.Holder.lawful c.args.self.now.holder) (told_desk g.H.Holder.count g.H.Holder.chosen g.H.Holder.held c.args.self.now _ _ _ _ _ c.self.view_is c.self.invariant)

pub loop-d-preserved : goal.loop-d-preserved
loop-d-preserved g c e lt =
    ⊎_elim
    (λ same. rw same (none_from _ (sym c.can_offer.ensures ∙ c.if-can_offer.false)))
    (λ ne. c.loop-d.invariant e (omega (arith, lt, ne)))
    (cases_eq e c.loop-d.d)
