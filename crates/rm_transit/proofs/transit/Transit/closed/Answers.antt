use Rattle.std.proofs.Common.{◌∙◌, sym, ap, length, arith}
use Rattle.rm_transit.specs.Travel.{transit_state, settled_mark}
use Rattle.rm_transit.proofs.Rest.{told, all_settled, one_unsettled, rested, held_is_chosen, refused_nowhere}
use Rattle.rm_transit.proofs.transit.Transit.closed.Goals as goal

pub returns-then-not-is_settled-clause-closed : goal.returns-then-not-is_settled-clause-closed
returns-then-not-is_settled-clause-closed g c =
    let f = ap (λ k. length k.wishes.listed) c.self.view_is in
    let len = c.len-d-end.ensures.len in
    let lt = c.loop-d-test.true in
    sym (one_unsettled c.args.self.now.wishes (transit_state g.H.Holder.held c.args.self.now) c.loop-d.d (omega (arith, f, len, lt)) (sym (ap settled_mark c.mark.ensures) ∙ sym c.is_settled.ensures ∙ c.if-not-is_settled.true))

pub returns-then-not-is_settled-clause-held : goal.returns-then-not-is_settled-clause-held
returns-then-not-is_settled-clause-held g c =
    held_is_chosen _ _ _ _ (g.met.H.Holder.lawful c.args.self.now.holder) (told g.H.Holder.count g.H.Holder.chosen g.H.Holder.held c.args.self.now _ _ _ _ c.self.view_is c.self.invariant)

pub returns-then-not-is_settled-clause-refused : goal.returns-then-not-is_settled-clause-refused
returns-then-not-is_settled-clause-refused g c =
    refused_nowhere _ _ _ _ (g.met.H.Holder.lawful c.args.self.now.holder) (told g.H.Holder.count g.H.Holder.chosen g.H.Holder.held c.args.self.now _ _ _ _ c.self.view_is c.self.invariant)

pub returns-clause-closed : goal.returns-clause-closed
returns-clause-closed g c =
    let f = ap (λ k. length k.wishes.listed) c.self.view_is in
    let len = c.len-d-end.ensures.len in
    sym (all_settled c.args.self.now.wishes (transit_state g.H.Holder.held c.args.self.now) (λ d lt. c.loop-d.invariant d (omega (arith, lt, f, len))))

pub returns-clause-optimal : goal.returns-clause-optimal
returns-clause-optimal g c _ =
    let f = ap (λ k. length k.wishes.listed) c.self.view_is in
    let len = c.len-d-end.ensures.len in
    rested _ _ _ _ (g.met.H.Holder.lawful c.args.self.now.holder) (told g.H.Holder.count g.H.Holder.chosen g.H.Holder.held c.args.self.now _ _ _ _ c.self.view_is c.self.invariant)
    (all_settled c.args.self.now.wishes (transit_state g.H.Holder.held c.args.self.now) (λ d lt. c.loop-d.invariant d (omega (arith, lt, f, len))))

pub returns-clause-held : goal.returns-clause-held
returns-clause-held g c =
    held_is_chosen _ _ _ _ (g.met.H.Holder.lawful c.args.self.now.holder) (told g.H.Holder.count g.H.Holder.chosen g.H.Holder.held c.args.self.now _ _ _ _ c.self.view_is c.self.invariant)

pub returns-clause-refused : goal.returns-clause-refused
returns-clause-refused g c =
    refused_nowhere _ _ _ _ (g.met.H.Holder.lawful c.args.self.now.holder) (told g.H.Holder.count g.H.Holder.chosen g.H.Holder.held c.args.self.now _ _ _ _ c.self.view_is c.self.invariant)
