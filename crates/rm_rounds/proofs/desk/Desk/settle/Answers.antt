use Rattle.std.proofs.Common.{◌∙◌, ◌<◌, length, subst}
use Rattle.std.specs.Prelude.{IfSome}
use Rattle.rm_rounds.proofs.Closing.{settles_more}
use Rattle.rm_rounds.proofs.desk.Desk.settle.Goals as goal

pub loop-next-preserved : goal.loop-next-preserved
loop-next-preserved g c =
    let inv = c.loop-next.invariant in
    let did = c.advance-next.ensures in
    record {
      settled = settles_more _ _ _ _ _ _ _ _ _ _ _ c.in-Some.is inv.chosen inv.wishes inv.settled did.settled;
      doctor = subst (λ w. IfSome c.advance-next.result (λ e. e < length w.listed)) inv.wishes did.doctor;
      wishes = did.wishes ∙ inv.wishes;
      chosen = did.chosen ∙ inv.chosen;
    }
