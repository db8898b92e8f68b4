use Rattle.std.proofs.Common.{◌∙◌}
use Rattle.rm_rounds.proofs.Closing.{leads_on}
use Rattle.rm_rounds.proofs.desk.Desk.sweep.Goals as goal

pub loop-d-preserved : goal.loop-d-preserved
loop-d-preserved g c =
    let inv = c.loop-d.invariant in
    let did = c.offer_until_held.ensures in
    record {
      reached = leads_on _ _ _ _ _ _ _ inv.chosen inv.wishes inv.reached did.reached;
      wishes = did.wishes ∙ inv.wishes;
      chosen = did.chosen ∙ inv.chosen;
    }
