use Rattle.std.proofs.Common.{◌∙◌}
use Rattle.std.proofs.lemmas.Result.{IfOk-weaker, IfErr-weaker}
use Rattle.rm_top.proofs.Answering.{stops_first, stops_later, told_found}
use Rattle.rm_top.proofs.telling.text_of.Goals as goal

pub returns-clause-told : goal.returns-clause-told
returns-clause-told g c =
    IfOk-weaker c.text_after.result _ _
    (λ told has. told_found _ c.args.command.now c.in-Ok.case told (rw c.folder.ensures at c.in-Ok.ensures.loads) has)
    (rw c.in-Ok.ensures.files at c.text_after.ensures.told)

pub returns-clause-stops : goal.returns-clause-stops
returns-clause-stops g c =
    IfErr-weaker c.text_after.result _ _
    (λ fault stops. stops_later _ _ _ _ _ c.args.command.now c.in-Ok.case fault (rw c.folder.ensures at c.in-Ok.ensures.loads) c.in-Ok.ensures.later stops)
    (rw c.in-Ok.ensures.files at c.text_after.ensures.stops)

pub returns-in-Err-clause-stops : goal.returns-in-Err-clause-stops
returns-in-Err-clause-stops g c =
    stops_first _ _ _ _ c.args.command.now c.folder.result.now c.in-Err.fault c.folder.ensures c.in-Err.ensures.loads c.in-Err.ensures.fails

pub returns-in-Err-clause-files : goal.returns-in-Err-clause-files
returns-in-Err-clause-files g c = c.in-Err.ensures.files

pub returns-clause-files : goal.returns-clause-files
returns-clause-files g c = c.text_after.ensures.files ∙ c.in-Ok.ensures.files
