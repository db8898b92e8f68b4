use Rattle.rm_transit.proofs.OneSeat.{three_are_wishes}
use Rattle.rm_transit.proofs.tests.new_transit.Goals as goal

pub open-requires-2-clause-wishes : goal.open-requires-2-clause-wishes
open-requires-2-clause-wishes c = rw (c.in_ok-holder.ensures.count, c.new.ensures.count) (three_are_wishes _ _ c.requires.owners c.requires.listed)
