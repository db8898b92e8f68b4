use Rattle.std.proofs.Common.{sym}
use Rattle.rm_top.proofs.OwnRows.{no_rows}
use Rattle.rm_top.proofs.telling.own_table.Goals as goal

pub returns-in-Ok-clause-loads : goal.returns-in-Ok-clause-loads
returns-in-Ok-clause-loads g c = no_rows _ c.args.command.now _ (rw c.in-None.is at (sym c.own_file.ensures)) c.in-Ok.ensures.1
