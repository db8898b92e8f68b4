use Rattle.std.proofs.Common.{◌∙◌}
use Rattle.rm_market.specs.Tree.{sets_of_tree}
use Rattle.rm_laminar.proofs.Told.{parent-around}
use Rattle.rm_laminar.proofs.Tree.parent.Goals as goal

pub returns : goal.returns
returns c = c.item.ensures ∙ rw c.around.ensures (parent-around (sets_of_tree c.args.self.now) c.args.node)
