use Rattle.std.proofs.Common.{◌<◌, ◌∷◌, [], true, length, refl, arith, length-append, length-set}
use Rattle.rm_ranks.proofs.Building.{is-noted, lists-item, item-built}
use Rattle.rm_ranks.proofs.builder.ListsBuilder.push.Goals as goal

pub returns-then-index : goal.returns-then-index
returns-then-index c =
    let built = rw c.in-Some.is at c.self.invariant in
    let lt = rw (← c.self.view_is) at c.requires.item in
    rw (← c.self.view_is, c.in-Some.is) (rw c.if-index.true at (is-noted _ _ _ _ _ _ _ built c.args.item c.index.result.now lt c.index.ensures), refl)

pub returns-then-len-self : goal.returns-then-len-self
returns-then-len-self c =
    let built = rw c.in-Some.is at c.self.invariant in
    let lt = rw (← c.self.view_is) at c.requires.item in
    rw (← c.self.view_is, c.in-Some.is) (rw c.if-index.false at (is-noted _ _ _ _ _ _ _ built c.args.item c.index.result.now lt c.index.ensures), omega (arith, c.if-len-self.true, c.len.ensures, c.self.inside.items.ok.0), refl)

pub invariant_of-self-2 : goal.invariant_of-self-2
invariant_of-self-2 c =
    let built = rw c.in-Some.is at c.self.invariant in
    let lt = rw (← c.self.view_is) at c.requires.item in
    let new = rw c.if-index.false at (is-noted _ _ _ _ _ _ _ built c.args.item c.index.result.now lt c.index.ensures) in
    let room : length c.self.inside.items.items < c.self.inside.limit = omega (arith, c.len.ensures, c.self.inside.items.ok.0, c.if-len-self.false) in
    rw (rw c.if-is_err.ensures.negation at c.push.ensures.items, rw c.if-is_err-2.ensures.negation at c.push-2.ensures.items, c.in-Some.is) (item-built _ _ _ _ _ _ _ built c.args.item lt room new)

pub returns : goal.returns
returns c =
    let built = rw c.in-Some.is at c.self.invariant in
    let lt = rw (← c.self.view_is) at c.requires.item in
    let new = rw c.if-index.false at (is-noted _ _ _ _ _ _ _ built c.args.item c.index.result.now lt c.index.ensures) in
    let room : length c.self.inside.items.items < c.self.inside.limit = omega (arith, c.len.ensures, c.self.inside.items.ok.0, c.if-len-self.false) in
    rw (← c.self.view_is, rw c.if-is_err.ensures.negation at c.push.ensures.items, rw c.if-is_err-2.ensures.negation at c.push-2.ensures.items, c.in-Some.is)
    (new, room, rw (lists-item _ _ _ _ _ _ _ built c.args.item, length-append c.self.inside.items.items (c.args.item ∷ []), length-set c.self.inside.seen.items c.args.item true) refl)
