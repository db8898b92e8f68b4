use Rattle.rm_flexible.proofs.OneRegion.{one_region}
use Rattle.rm_flexible.proofs.tests.one_region.Goals as goal

pub new-requires-clause-lawful : goal.new-requires-clause-lawful
new-requires-clause-lawful c = one_region c.args.board.now c.args.regions.now c.requires.two c.requires.one c.requires.lawful c.requires.all
