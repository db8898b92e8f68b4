use Rattle.std.proofs.Common.{◌∷◌, subst, sym}
use Rattle.std.specs.List.Sorted.{IsPermutation}
use Rattle.std.specs.BinaryHeap.{heap_items}
use Rattle.rm_exchange.specs.Leaves.{IsGreatestOf}
use Rattle.rm_exchange.proofs.Greatest.{still_greatest, new_greatest, no_more, none_before, from_on_ok}
use Rattle.rm_exchange.proofs.leaf.put_in.Goals as goal
use Rattle.rm_exchange.proofs.leaf.put_in.Goals.{in-Some+else-x-last, in_default}

pub returns-then-x-last-clause-last : goal.returns-then-x-last-clause-last
returns-then-x-last-clause-last c =
    let old = heap_items c.args.leaf.now.held in
    let new = heap_items c.push.new.self in
    let p = from_on_ok (IsPermutation (c.args.x ∷ old) new) c.push.result c.if-is_err.ensures.negation c.push.ensures.permutation in
    subst (IsGreatestOf new) (sym c.in-Some.is) (still_greatest old new c.args.x c.in-Some.last (subst (IsGreatestOf old) c.in-Some.is c.requires.last) c.if-x-last.true p)

pub returns-clause-last : goal.returns-clause-last
returns-clause-last c =
    let old = heap_items c.args.leaf.now.held in
    let new = heap_items c.push.new.self in
    let p = from_on_ok (IsPermutation (c.args.x ∷ old) new) c.push.result c.if-is_err.ensures.negation c.push.ensures.permutation in
    new_greatest old new c.args.x c.args.leaf.now.last c.requires.last
    (elim c.match-leaf.branch [ in-Some+else-x-last w ↦ no_more c.args.x c.args.leaf.now.last w.in-Some.last w.in-Some.is w.if-x-last.false | in_default w ↦ none_before c.args.x c.args.leaf.now.last w.in_default.is ])
    p

pub returns-clause-tie : goal.returns-clause-tie
returns-clause-tie c = c.tie_key-leaf.ensures.key
