use Rattle.rm_sets.proofs.Members.{IsIn-get_or}
use Rattle.rm_top.proofs.choosing.held_among.Goals as goal

pub holds-requires : goal.holds-requires
holds-requires g c = c.requires.below _ (IsIn-get_or c.args.offered.now c.loop-i.i 0 c.loop-i-test.true)
