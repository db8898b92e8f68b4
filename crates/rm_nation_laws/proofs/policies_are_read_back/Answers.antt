use Rattle.rm_nation_laws.proofs.Printed.{printed, read_back, short}
use Rattle.rm_nation_laws.proofs.policies_are_read_back.Goals as goal

pub returns : goal.returns
returns c = record { printed = printed; read = read_back; short = short }
