use Rattle.std.proofs.Common.{length}
use Rattle.rm_lists.proofs.Grouped.{sum-dealt}
use Rattle.rm_ranks.proofs.Building.{lists-below, lists-distinct}
use Rattle.rm_ranks.proofs.builder.ListsBuilder.finish.Goals as goal

pub returns-in_err-deal-clause-below : goal.returns-in_err-deal-clause-below
returns-in_err-deal-clause-below c = rw (← c.self.view_is) (lists-below _ (length c.self.inside.marks.items) c.self.inside.keys.items c.self.inside.items.items c.self.invariant.below)

pub returns-in_err-deal-clause-held : goal.returns-in_err-deal-clause-held
returns-in_err-deal-clause-held c = rw (← c.self.view_is) (sum-dealt _ _ _ c.self.invariant.known c.self.invariant.beside, c.self.invariant.room)

pub invariant_of-result : goal.invariant_of-result
invariant_of-result c = rw c.in_ok-deal.ensures (rw (c.deref.ensures.value, c.deref-2.ensures.value) (lists-distinct c.len.result c.self.inside.keys.items c.self.inside.items.items c.self.invariant.distinct))

pub returns-clause-below : goal.returns-clause-below
returns-clause-below c = rw (← c.self.view_is) (lists-below _ (length c.self.inside.marks.items) c.self.inside.keys.items c.self.inside.items.items c.self.invariant.below)

pub returns-clause-held : goal.returns-clause-held
returns-clause-held c = rw (← c.self.view_is) (sum-dealt _ _ _ c.self.invariant.known c.self.invariant.beside, c.self.invariant.room)
