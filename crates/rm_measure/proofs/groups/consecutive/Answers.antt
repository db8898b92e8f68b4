use Rattle.rm_measure.proofs.Sizes.{row-set}
use Rattle.rm_measure.proofs.groups.consecutive.Goals as goal

pub returns : goal.returns
returns c = row-set c.args.start c.args.end c.loop-h.group.items c.loop-h.invariant.items c.loop-h.invariant.below c.requires
