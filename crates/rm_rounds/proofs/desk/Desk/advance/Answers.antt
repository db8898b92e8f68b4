use Rattle.std.proofs.Common.{◌∙◌, ap, sym, length, arith}
use Rattle.rm_rounds.proofs.Closing.{told_desk, turn_swapped, read_settles, read_doctor, read_fewer}
use Rattle.rm_rounds.proofs.desk.Desk.advance.Goals as goal

pub doctor_to_go_on-requires : goal.doctor_to_go_on-requires
doctor_to_go_on-requires g c =
    let desk = told_desk g.H.Holder.count g.H.Holder.chosen g.H.Holder.held c.args.self.now _ _ _ _ _ c.self.view_is c.self.invariant in
    let law = g.met.H.Holder.lawful c.args.self.now.holder in
    let f = ap (λ k. length k.wishes.owners) c.self.view_is in
    record { swapped = λ x z e. let lt = turn_swapped _ _ _ _ _ law desk c.args.d c.requires.doctor x z (sym c.offer-turn.ensures.turn ∙ e) in omega (arith, lt, f) }

pub returns-clause-settled : goal.returns-clause-settled
returns-clause-settled g c =
    let desk = told_desk g.H.Holder.count g.H.Holder.chosen g.H.Holder.held c.args.self.now _ _ _ _ _ c.self.view_is c.self.invariant in
    let law = g.met.H.Holder.lawful c.args.self.now.holder in
    read_settles _ _ _ _ _ law desk c.args.d c.requires.doctor _ _ _ _ (ap (λ k. k.wishes.owners) c.self.view_is) c.offer-turn.ensures.turn c.doctor_to_go_on.ensures c.offer-turn.ensures.state

pub returns-clause-doctor : goal.returns-clause-doctor
returns-clause-doctor g c =
    let desk = told_desk g.H.Holder.count g.H.Holder.chosen g.H.Holder.held c.args.self.now _ _ _ _ _ c.self.view_is c.self.invariant in
    let law = g.met.H.Holder.lawful c.args.self.now.holder in
    read_doctor _ _ _ _ _ law desk c.args.d c.requires.doctor _ _ _ _ (ap (λ k. k.wishes.owners) c.self.view_is) c.offer-turn.ensures.turn c.doctor_to_go_on.ensures c.offer-turn.ensures.state

pub returns-clause-fewer : goal.returns-clause-fewer
returns-clause-fewer g c =
    let desk = told_desk g.H.Holder.count g.H.Holder.chosen g.H.Holder.held c.args.self.now _ _ _ _ _ c.self.view_is c.self.invariant in
    let law = g.met.H.Holder.lawful c.args.self.now.holder in
    read_fewer _ _ _ _ _ law desk c.args.d c.requires.doctor _ _ _ _ (ap (λ k. k.wishes.owners) c.self.view_is) c.offer-turn.ensures.turn c.doctor_to_go_on.ensures c.offer-turn.ensures.state
