use Rattle.std.proofs.Common.{◌+◌}
use Rattle.rm_drill_laws.proofs.Printed.{printed}
use Rattle.rm_drill.proofs.files.print_hospital.Goals as goal

pub returns : goal.returns
returns c = rw (c.clear.ensures.bytes, c.laid_out.ensures, printed 5 (c.args.h + 1)) at c.write.ensures.bytes
