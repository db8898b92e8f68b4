use Rattle.std.proofs.Common.{◌<◌, length, refl}
use Rattle.std.proofs.lemmas.List.{length-map}
use Rattle.rm_laminar.proofs.ListOfLists.{list-at, lists-set}
use Rattle.rm_laminar.proofs.lists.Lists.insert.Goals as goal

pub returns : goal.returns
returns c =
    let within = rw (← c.self.view_is) at c.requires.list in
    let lt : c.args.i < length c.self.inside.lists.items = rw length-map at within in
    let list = list-at c.self.inside.lists.items c.args.i c.index_mut-list.result.now lt c.index_mut-list.ensures.value in
    rw (← c.self.view_is, list, lists-set c.self.inside.lists.items c.args.i c.insert.new.self, c.in_ok-insert.ensures.items) refl
