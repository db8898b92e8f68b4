use Rattle.std.proofs.lemmas.Result.{IfOk-weaker}
use Rattle.rm_top.proofs.BothTexts.{both_told, declared_within, others_are_within}
use Rattle.rm_top.proofs.replacing.both_text.Goals as goal

pub pair_text-requires-clause-declared : goal.pair_text-requires-clause-declared
pair_text-requires-clause-declared c =
    declared_within c.args.case.now c.args.d c.args.hospitals.now _ _ c.what_if.ensures.case c.in_ok-pair.ensures.both

pub pair_text-requires-clause-replaced : goal.pair_text-requires-clause-replaced
pair_text-requires-clause-replaced c =
    others_are_within c.args.case.now c.args.d c.args.hospitals.now _ _ c.what_if.ensures.case c.in_ok-pair.ensures.both

pub returns : goal.returns
returns c =
    IfOk-weaker c.pair_text.result _ _
    (λ text is. both_told c.args.case.now c.args.d c.args.hospitals.now _ _ c.what_if.ensures.case c.in_ok-pair.ensures.both text.items is)
    c.pair_text.ensures
