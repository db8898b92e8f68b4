use Rattle.rm_roster.proofs.Accepted.{accepted}
use Rattle.rm_roster.proofs.accepted_tables.Goals as goal

pub returns : goal.returns
returns c = accepted
