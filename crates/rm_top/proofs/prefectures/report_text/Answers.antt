use Rattle.std.proofs.lemmas.Result.{IfOk-weaker}
use Rattle.rm_top.proofs.Placed.{placed_report}
use Rattle.rm_top.proofs.PlacesWithin.{places_long, places_within}
use Rattle.rm_top.proofs.prefectures.report_text.Goals as goal

pub prefecture_text-requires-clause-doctors : goal.prefecture_text-requires-clause-doctors
prefecture_text-requires-clause-doctors c = rw c.in_ok-places.ensures.solved.places (places_long c.args.case.now c.in_ok-places.ensures.solved.set c.solve.ensures.case)

pub prefecture_text-requires-clause-hospitals : goal.prefecture_text-requires-clause-hospitals
prefecture_text-requires-clause-hospitals c = rw c.in_ok-places.ensures.solved.places (places_within c.args.case.now c.in_ok-places.ensures.solved.set c.solve.ensures.case c.in_ok-places.ensures.solved.placement)

pub returns : goal.returns
returns c =
    IfOk-weaker c.prefecture_text.result _ _
    (λ text is. placed_report c.args.case.now _ text.items c.solve.ensures.case c.in_ok-places.ensures.solved is)
    c.prefecture_text.ensures
