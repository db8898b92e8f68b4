use Rattle.rm_sets.proofs.Members.{IsIn-get_or}
use Rattle.std.proofs.Common.{◌+◌, arith}
use Rattle.rm_greedy.proofs.heads.goes_on.Goals as goal

pub leaf-requires : goal.leaf-requires
leaf-requires c = c.requires.offered.below _ (IsIn-get_or c.args.offered.now (c.args.place + 1) 0 (omega arith))

pub leaf-requires-2 : goal.leaf-requires-2
leaf-requires-2 c = c.requires.offered.below _ (IsIn-get_or c.args.offered.now c.args.place 0 c.requires.place)
