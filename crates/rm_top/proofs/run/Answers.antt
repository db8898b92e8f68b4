use Rattle.std.proofs.Common.{map, string_bytes}
use Rattle.rm_top.specs.Command.{command_of}
use Rattle.rm_top.proofs.Completeness.{complete}
use Rattle.rm_top.proofs.Ended.{objected_where, refused_where}
use Rattle.rm_top.proofs.ErrorTexts.{told}
use Rattle.rm_top.proofs.run.Goals as goal

pub returns-clause-refused : goal.returns-clause-refused
returns-clause-refused g c =
    rw c.status.ensures (refused_where _ (command_of (map string_bytes c.args.words.now)) c.perform-ending.result c.perform-ending.ensures.ends)

pub returns-clause-objected : goal.returns-clause-objected
returns-clause-objected g c =
    rw c.status.ensures (objected_where _ (command_of (map string_bytes c.args.words.now)) c.perform-ending.result c.perform-ending.ensures.ends)

pub returns-clause-complete : goal.returns-clause-complete
returns-clause-complete g c =
    rw c.status.ensures (complete _ (command_of (map string_bytes c.args.words.now)) c.perform-ending.result c.perform-ending.ensures.ends)

pub returns-clause-told : goal.returns-clause-told
returns-clause-told g c = (
  c.text.result.now,
  rw (c.status.ensures, c.text.ensures) (told _ (command_of (map string_bytes c.args.words.now)) c.perform-ending.result c.perform-ending.ensures.ends),
  c.report.ensures,
)
