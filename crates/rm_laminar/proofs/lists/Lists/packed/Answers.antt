use Rattle.std.proofs.Common.{◌<◌, [], length, arith}
use Rattle.std.proofs.lemmas.List.{take_more}
use Rattle.rm_laminar.proofs.ListOfLists.{list-at, lists-length}
use Rattle.rm_laminar.specs.Chains.{chain_lists}
use Rattle.rm_laminar.proofs.lists.Lists.packed.Goals as goal

pub loop-i-preserved : goal.loop-i-preserved
loop-i-preserved c =
    let lists = c.self.inside.lists.items in
    let lt : c.loop-i.i < length lists = omega (arith, c.loop-i-test.true, c.len-i-end.ensures, c.self.inside.lists.ok.0) in
    let here = list-at lists c.loop-i.i c.index.result.now lt c.index.ensures in
    let more = take_more (chain_lists lists) c.loop-i.i [] (omega (arith, lt, lists-length lists)) in
    let so_far = rw (← c.self.view_is) at c.loop-i.invariant in
    rw (← c.self.view_is, more, here, ← so_far, ← c.deref.ensures.value) c.in_ok-push.ensures.lists
