use Rattle.rm_case.proofs.OfferRows.{sorted-set, same-members}
use Rattle.rm_case.proofs.offers.Offers.ascending.Goals as goal

pub returns-clause-set : goal.returns-clause-set
returns-clause-set c =
    sorted-set c.extend_from_slice.new.self.items c.sort_unstable.new.self.items
    (rw (c.in_ok-extend_from_slice.ensures.items, c.new-contracts.ensures.items, c.deref.ensures.value) c.self.invariant) c.sort_unstable.ensures.permutation c.sort_unstable.ensures.sorted

pub returns-clause-same : goal.returns-clause-same
returns-clause-same c =
    let same = same-members c.extend_from_slice.new.self.items c.sort_unstable.new.self.items c.sort_unstable.ensures.permutation in
    let copied = rw (c.new-contracts.ensures.items, c.deref.ensures.value) at c.in_ok-extend_from_slice.ensures.items in
    rw (← c.self.view_is, ← copied) same
