use Rattle.std.proofs.Common.{◌∙◌, length, arith}
use Rattle.std.proofs.lemmas.List.{get_or_read}
use Rattle.rm_laminar.specs.Tree.{told}
use Rattle.rm_laminar.proofs.Told.{kept-around, kept-first, nodes-count}
use Rattle.rm_laminar.proofs.Tree.around.Goals as goal

pub index-requires : goal.index-requires
index-requires c =
    let lt = rw (← c.self.view_is) at c.requires in
    let count = nodes-count (told (length c.self.inside.firsts.items) c.self.inside.chains) c.self.inside.chains c.self.inside.firsts.items c.self.invariant.0 in
    omega (arith, lt, count, c.self.inside.firsts.ok.0)

pub list-requires : goal.list-requires
list-requires c =
    let lt = rw (← c.self.view_is) at c.requires in
    let count = nodes-count (told (length c.self.inside.firsts.items) c.self.inside.chains) c.self.inside.chains c.self.inside.firsts.items c.self.invariant.0 in
    let first = get_or_read c.self.inside.firsts.items c.args.node c.index.result.now (omega (arith, lt, count)) c.index.ensures 0 in
    let below = (kept-first (told (length c.self.inside.firsts.items) c.self.inside.chains) c.self.inside.chains c.self.inside.firsts.items c.args.node c.self.invariant.0 lt).1 in
    rw (first, c.self.invariant.0.built.each_hospital) below

pub returns : goal.returns
returns c =
    let lt = rw (← c.self.view_is) at c.requires in
    let count = nodes-count (told (length c.self.inside.firsts.items) c.self.inside.chains) c.self.inside.chains c.self.inside.firsts.items c.self.invariant.0 in
    let first = get_or_read c.self.inside.firsts.items c.args.node c.index.result.now (omega (arith, lt, count)) c.index.ensures 0 in
    c.nodes_from.ensures ∙ rw (c.list.ensures.list, first, ← c.self.view_is) (kept-around (told (length c.self.inside.firsts.items) c.self.inside.chains) c.self.inside.chains c.self.inside.firsts.items c.args.node c.self.invariant.0 lt)
