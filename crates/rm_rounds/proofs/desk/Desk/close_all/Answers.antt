use Rattle.std.proofs.Common.{◌∙◌, ap, length, arith}
use Rattle.rm_rounds.proofs.Closing.{told_desk, leads_on, settles_same, one_more_settled, closed_later, optimal_later}
use Rattle.rm_rounds.proofs.desk.Desk.close_all.Goals as goal

pub loop-preserved : goal.loop-preserved
loop-preserved g c =
    let inv = c.loop.invariant in
    let did = c.sweep.ensures in
    record {
      reached = leads_on _ _ _ _ _ _ _ inv.chosen inv.wishes inv.reached did.reached;
      wishes = did.wishes ∙ inv.wishes;
      chosen = did.chosen ∙ inv.chosen;
    }

pub loop-d-preserved : goal.loop-d-preserved
loop-d-preserved g c =
    let inv = c.loop-d.invariant in
    let did = c.settle.ensures in
    let more = settles_same _ _ _ _ _ _ _ _ inv.chosen inv.wishes did.settled in
    record {
      reached = leads_on _ _ _ _ _ _ _ inv.chosen inv.wishes inv.reached did.settled.reached;
      settled = one_more_settled _ _ c.loop-d.d _ _ more inv.settled;
      wishes = did.wishes ∙ inv.wishes;
      chosen = did.chosen ∙ inv.chosen;
    }

pub returns-clause-closed : goal.returns-clause-closed
returns-clause-closed g c =
    let desk = told_desk g.H.Holder.count g.H.Holder.chosen g.H.Holder.held c.args.self.now _ _ _ _ _ c.self.view_is c.self.invariant in
    let law = g.met.H.Holder.lawful c.args.self.now.holder in
    let f = ap (λ k. length k.wishes.listed) c.self.view_is in
    let len = c.len-doctors.ensures in
    let inv = c.loop-d.invariant in
    closed_later _ _ _ _ _ law desk _ inv.reached.0 inv.reached.1 _ _ inv.chosen inv.wishes (λ d lt. inv.settled d (omega (arith, lt, f, len)))

pub returns-clause-optimal : goal.returns-clause-optimal
returns-clause-optimal g c =
    let desk = told_desk g.H.Holder.count g.H.Holder.chosen g.H.Holder.held c.args.self.now _ _ _ _ _ c.self.view_is c.self.invariant in
    let law = g.met.H.Holder.lawful c.args.self.now.holder in
    let f = ap (λ k. length k.wishes.listed) c.self.view_is in
    let len = c.len-doctors.ensures in
    let inv = c.loop-d.invariant in
    optimal_later _ _ _ _ _ law desk _ inv.reached.0 inv.reached.1 _ _ inv.chosen inv.wishes (λ d lt. inv.settled d (omega (arith, lt, f, len)))
