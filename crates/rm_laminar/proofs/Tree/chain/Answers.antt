use Rattle.std.proofs.Common.{◌∙◌, length}
use Rattle.rm_laminar.specs.Tree.{told}
use Rattle.rm_laminar.proofs.Told.{kept-chain}
use Rattle.rm_laminar.proofs.Tree.chain.Goals as goal

pub returns : goal.returns
returns c =
    let lt = rw (← c.self.view_is) at c.requires in
    c.list.ensures.list ∙ rw (← c.self.view_is) (kept-chain (told (length c.self.inside.firsts.items) c.self.inside.chains) c.self.inside.chains c.self.inside.firsts.items c.args.h c.self.invariant.0 lt)
