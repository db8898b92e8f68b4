use Rattle.std.proofs.Common.{arith}
use Rattle.rm_market.specs.Tree.{sets_of_tree}
use Rattle.rm_laminar.proofs.Told.{around-some, root-around}
use Rattle.rm_laminar.proofs.Tree.root.Goals as goal

pub overflow_sub-result : goal.overflow_sub-result
overflow_sub-result c = rw c.around-outward.ensures (around-some (sets_of_tree c.args.self.now) c.args.node)

pub bounds-outward-outward : goal.bounds-outward-outward
bounds-outward-outward c = let some = around-some (sets_of_tree c.args.self.now) c.args.node in rw c.around-outward.ensures (omega (arith, some))

pub returns : goal.returns
returns c = rw c.around-outward.ensures (root-around (sets_of_tree c.args.self.now) c.args.node)
