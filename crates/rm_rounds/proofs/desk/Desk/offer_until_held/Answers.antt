use Rattle.std.proofs.Common.{◌∙◌, refl, inl}
use Rattle.rm_rounds.proofs.Closing.{leads_on, settles_same}
use Rattle.rm_rounds.proofs.desk.Desk.offer_until_held.Goals as goal

pub loop-self-preserved : goal.loop-self-preserved
loop-self-preserved g c =
    let inv = c.loop-self.invariant in
    let did = c.advance-next.ensures in
    record {
      reached = leads_on _ _ _ _ _ _ _ inv.chosen inv.wishes inv.reached did.settled.reached;
      settled = λ ne. (settles_same _ _ _ _ _ _ _ _ inv.chosen inv.wishes did.settled).settled c.args.d ne (inl refl);
      wishes = did.wishes ∙ inv.wishes;
      chosen = did.chosen ∙ inv.chosen;
    }
