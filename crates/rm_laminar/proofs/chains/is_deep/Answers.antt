use Rattle.std.proofs.Common.{get_or}
use Rattle.rm_sets.proofs.Members.{IsIn-get_or}
use Rattle.rm_laminar.proofs.chains.is_deep.Goals as goal

pub list-requires : goal.list-requires
list-requires c = c.requires (get_or c.args.group.now c.loop-i.i 0) (IsIn-get_or c.args.group.now c.loop-i.i 0 c.loop-i-test.true)
