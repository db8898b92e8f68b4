use Rattle.std.proofs.lemmas.Result.{IfOk-weaker}
use Rattle.rm_replay.proofs.Ended.{played_out, played_solves}
use Rattle.rm_replay.proofs.flexible_run.Goals as goal

pub returns-clause-ended : goal.returns-clause-ended
returns-clause-ended c =
    IfOk-weaker c.play_regions.result _ _
    (λ played by. played_out c.args.case.now c.regions.ensures.case c.args.order.now played.turns.items played.places by) c.play_regions.ensures

pub returns-clause-solved : goal.returns-clause-solved
returns-clause-solved c =
    IfOk-weaker c.play_regions.result _ _
    (λ played by. played_solves c.args.case.now c.regions.ensures.case c.args.order.now played.turns.items played.places by c.requires.flexible) c.play_regions.ensures
