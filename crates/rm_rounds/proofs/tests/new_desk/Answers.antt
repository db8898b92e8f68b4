use Rattle.rm_rounds.proofs.OnePost.{two_are_wishes}
use Rattle.rm_rounds.proofs.tests.new_desk.Goals as goal

pub open-requires-2-clause-wishes : goal.open-requires-2-clause-wishes
open-requires-2-clause-wishes c = rw (c.in_ok-holder.ensures.count, c.new.ensures.count) (two_are_wishes _ _ c.requires.owners c.requires.listed)
