use Rattle.std.proofs.Common.{◌≡◌, ◌∙◌, get_or, Some, None, refl, sym, arith, length-set}
use Rattle.std.proofs.lemmas.List.{get_or_read}
use Rattle.rm_lists.proofs.Grouped.{length-dealt}
use Rattle.rm_ranks.proofs.Building.{none-seen, list-built}
use Rattle.rm_ranks.proofs.builder.ListsBuilder.row.Goals as goal

pub index-requires : goal.index-requires
index-requires c =
    let lt = rw (← c.self.view_is, length-dealt _ c.self.inside.keys.items c.self.inside.items.items) at c.requires in
    omega (arith, lt, c.self.inside.marks.ok.0)

pub returns-in-Some : goal.returns-in-Some
returns-in-Some c =
    let lt = rw (← c.self.view_is, length-dealt _ c.self.inside.keys.items c.self.inside.items.items) at c.requires in
    rw (← c.self.view_is) (sym (get_or_read c.self.inside.marks.items c.args.i _ lt c.index.ensures None) ∙ c.in-Some.is, refl)

pub index_mut-requires : goal.index_mut-requires
index_mut-requires c =
    let lt = rw (← c.self.view_is, length-dealt _ c.self.inside.keys.items c.self.inside.items.items) at c.requires in
    omega (arith, lt, c.self.inside.marks.ok.0)

pub invariant_of-self : goal.invariant_of-self
invariant_of-self c =
    let lt = rw (← c.self.view_is, length-dealt _ c.self.inside.keys.items c.self.inside.items.items) at c.requires in
    let none : get_or c.self.inside.marks.items c.args.i None ≡ None = sym (rw c.in_default.is at c.index.ensures) in
    list-built _ _ _ _ _ _ _ c.self.invariant c.args.i _ c.args.mark lt none (c.len-self-inside.ensures ∙ c.self.inside.items.ok.0) _ c.forget_items.ensures.count (none-seen c.self.inside.items.items c.deref.result.now c.self.inside.start c.self.inside.seen.items c.forget_items.new.seen.items c.self.invariant.noted c.deref.ensures.value c.forget_items.ensures.gone)

pub returns : goal.returns
returns c =
    let none : get_or c.self.inside.marks.items c.args.i None ≡ None = sym (rw c.in_default.is at c.index.ensures) in
    rw (← c.self.view_is) (none, rw (length-set c.self.inside.marks.items c.args.i (Some c.args.mark), c.forget_items.ensures.count) refl)
