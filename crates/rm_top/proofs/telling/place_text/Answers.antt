use Rattle.std.proofs.lemmas.Result.{IfOk-weaker}
use Rattle.rm_top.proofs.Placed.{placed_text}
use Rattle.rm_top.proofs.PlacesWithin.{places_long, places_within}
use Rattle.rm_top.proofs.telling.place_text.Goals as goal

pub placement_text-requires-clause-doctors : goal.placement_text-requires-clause-doctors
placement_text-requires-clause-doctors c = rw c.in_ok-places.ensures.solved.places (places_long c.args.case.now c.in_ok-places.ensures.solved.set c.solve.ensures.case)

pub placement_text-requires-clause-hospitals : goal.placement_text-requires-clause-hospitals
placement_text-requires-clause-hospitals c = rw c.in_ok-places.ensures.solved.places (places_within c.args.case.now c.in_ok-places.ensures.solved.set c.solve.ensures.case c.in_ok-places.ensures.solved.placement)

pub returns : goal.returns
returns c =
    IfOk-weaker c.placement_text.result _ _
    (λ text is. placed_text c.args.case.now _ text.items c.solve.ensures.case c.in_ok-places.ensures.solved is)
    c.placement_text.ensures
