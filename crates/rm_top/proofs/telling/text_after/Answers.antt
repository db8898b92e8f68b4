use Rattle.std.proofs.Common.{◌∙◌, sym}
use Rattle.rm_top.proofs.Answering.{file_stops, rows_refused, rows_told, word_refused}
use Rattle.rm_top.proofs.telling.text_after.Goals as goal

pub returns-in-Err-clause-stops : goal.returns-in-Err-clause-stops
returns-in-Err-clause-stops g c =
    file_stops _ _ _ _ c.args.command.now c.args.case.now c.in-Err.fault (sym c.refused_word.ensures ∙ c.in_default.is) c.in-Err.ensures.loads c.in-Err.ensures.fails

pub returns-in-Ok-text_on-clause-told : goal.returns-in-Ok-text_on-clause-told
returns-in-Ok-text_on-clause-told g c =
    rows_told _ c.args.command.now c.args.case.now c.in-Ok.own c.in-Ok-text_on.told (sym c.refused_word.ensures ∙ c.in_default.is) c.in-Ok.ensures.loads c.in-Ok-text_on.ensures.told

pub returns-in-Err-Refused-clause-stops : goal.returns-in-Err-Refused-clause-stops
returns-in-Err-Refused-clause-stops g c =
    rows_refused _ c.args.command.now c.args.case.now c.in-Ok.own _ (sym c.refused_word.ensures ∙ c.in_default.is) c.in-Ok.ensures.loads
    (rw c.in-Err-Refused.field-0-is at c.in-Err-Refused.ensures.stops)

pub returns-in-Some-clause-stops : goal.returns-in-Some-clause-stops
returns-in-Some-clause-stops g c = word_refused _ c.args.command.now c.args.case.now c.in-Some.refusal (sym c.refused_word.ensures ∙ c.in-Some.is)
