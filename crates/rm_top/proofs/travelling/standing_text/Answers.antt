use Rattle.std.proofs.lemmas.Result.{IfOk-weaker}
use Rattle.rm_top.proofs.Placed.{placed_travel}
use Rattle.rm_top.proofs.travelling.standing_text.Goals as goal

pub returns : goal.returns
returns c =
    IfOk-weaker c.transit_text.result _ _
    (λ text is. placed_travel c.args.case.now c.args.events.now text.items c.run_events.ensures.case c.run_events.ensures.leads
    (rw (c.deref.ensures.value, c.in_ok-standing.ensures.marks, c.in_ok-standing.ensures.closed) at is))
    c.transit_text.ensures
