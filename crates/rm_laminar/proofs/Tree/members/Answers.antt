use Rattle.std.proofs.Common.{◌∙◌, arith}
use Rattle.rm_laminar.proofs.Tree.members.Goals as goal

pub list-requires : goal.list-requires
list-requires c =
    let lt = rw (← c.self.view_is) at c.requires in
    omega (arith, lt, c.self.invariant.2.lengths)

pub returns : goal.returns
returns c =
    let lt = rw (← c.self.view_is) at c.requires in
    c.list.ensures.list ∙ rw (← c.self.view_is) (c.self.invariant.2.each c.args.node lt)
