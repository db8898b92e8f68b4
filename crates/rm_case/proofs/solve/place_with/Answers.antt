use Rattle.std.proofs.lemmas.Result.{IfOk-weaker}
use Rattle.rm_case.proofs.Solved.{closed-places}
use Rattle.rm_case.proofs.solve.place_with.Goals as goal

pub returns : goal.returns
returns g c =
    IfOk-weaker c.places_at.result _ _
    (λ places at. closed-places c.args.board.now _ c.args.listed.now _ _ (g.H.Holder.chosen c.args.holder) _ _ _ places
    c.owners.ensures c.in_ok-desk.ensures.wishes c.close_all.ensures.wishes c.in_ok-desk.ensures.chosen c.close_all.ensures.chosen
    c.requires.best c.requires.wishes c.close_all.ensures.optimal at)
    c.places_at.ensures
