use Rattle.rm_nation_laws.proofs.Drawn.{are_seats}
use Rattle.rm_nation_laws.proofs.seats_are_drawn.Goals as goal

pub returns : goal.returns
returns c = are_seats
