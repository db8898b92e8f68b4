use Rattle.rm_nation_laws.proofs.Groups.{groups_pass}
use Rattle.rm_nation_laws.proofs.Roster.{suits}
use Rattle.rm_nation_laws.proofs.rosters_suit.Goals as goal

pub returns : goal.returns
returns c = record { suits = suits; groups = groups_pass }
