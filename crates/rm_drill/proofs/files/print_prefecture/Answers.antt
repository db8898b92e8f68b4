use Rattle.std.proofs.Common.{◌+◌}
use Rattle.rm_drill_laws.proofs.Printed.{printed}
use Rattle.rm_drill.proofs.files.print_prefecture.Goals as goal

pub returns : goal.returns
returns c = rw (c.clear.ensures.bytes, c.laid_out.ensures, printed 2 (c.args.q + 1)) at c.write.ensures.bytes
