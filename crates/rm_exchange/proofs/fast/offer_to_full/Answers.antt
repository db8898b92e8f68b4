use Rattle.std.proofs.Common.{◌∙◌, ◌<◌, refl, subst, sym}
use Rattle.std.specs.Prelude.{IfSome}
use Rattle.rm_market.specs.Board.{contract_count, leaf_of}
use Rattle.rm_market.specs.Best.{swapped}
use Rattle.rm_exchange.specs.Holding.{held_in}
use Rattle.rm_exchange.proofs.Held.{held_set}
use Rattle.rm_exchange.proofs.Leaves.{last_held}
use Rattle.rm_exchange.proofs.FullLeaf.{leaf_of_full, full_refused, full_swapped}
use Rattle.rm_exchange.proofs.Offered.{settled_by, chosen_by, swapped_is}
use Rattle.rm_exchange.proofs.fast.offer_to_full.Goals as goal

pub returns-in_default-clause-held : goal.returns-in_default-clause-held
returns-in_default-clause-held c =
    let b = c.args.board.now in
    let h = c.args.holding.now in
    let leaf = leaf_of_full b h c.args.x c.leaf.result c.index.result.now c.requires.holding.kept.leaves c.leaf.ensures.leaf c.leaf.ensures.below c.index.ensures c.requires.full in
    let best = full_refused b c.args.places.now h c.args.x c.index.result.now c.requires.holding c.requires.contract c.requires.new leaf (subst (λ o. IfSome o (λ z. z < c.args.x)) (sym c.in_default.is) tt) in
    chosen_by b (held_in b h) (held_in b h) c.args.x h c.requires.holding.kept.hospitals (held_set (contract_count b) h.marks.items) c.requires.contract best refl

pub returns-then-last-x-clause-held : goal.returns-then-last-x-clause-held
returns-then-last-x-clause-held c =
    let b = c.args.board.now in
    let h = c.args.holding.now in
    let leaf = leaf_of_full b h c.args.x c.leaf.result c.index.result.now c.requires.holding.kept.leaves c.leaf.ensures.leaf c.leaf.ensures.below c.index.ensures c.requires.full in
    let best = full_refused b c.args.places.now h c.args.x c.index.result.now c.requires.holding c.requires.contract c.requires.new leaf (subst (λ o. IfSome o (λ z. z < c.args.x)) (sym c.in-Some.is) c.if-last-x.true) in
    chosen_by b (held_in b h) (held_in b h) c.args.x h c.requires.holding.kept.hospitals (held_set (contract_count b) h.marks.items) c.requires.contract best refl

pub swap_at_leaf-requires-clause-last : goal.swap_at_leaf-requires-clause-last
swap_at_leaf-requires-clause-last c =
    let b = c.args.board.now in
    let h = c.args.holding.now in
    let plan = c.requires.holding.kept.hospitals in
    let leaf = leaf_of_full b h c.args.x c.leaf.result c.index.result.now c.requires.holding.kept.leaves c.leaf.ensures.leaf c.leaf.ensures.below c.index.ensures c.requires.full in
    last_held b plan (held_in b h) (leaf_of b c.args.x) (plan.leaf c.args.x c.requires.contract) c.index.result.now leaf.kept c.in-Some.last c.in-Some.is

pub swap_at_leaf-requires-clause-feasible : goal.swap_at_leaf-requires-clause-feasible
swap_at_leaf-requires-clause-feasible c =
    let b = c.args.board.now in
    let h = c.args.holding.now in
    let leaf = leaf_of_full b h c.args.x c.leaf.result c.index.result.now c.requires.holding.kept.leaves c.leaf.ensures.leaf c.leaf.ensures.below c.index.ensures c.requires.full in
    (full_swapped b c.args.places.now h c.args.x c.in-Some.last c.index.result.now c.requires.holding c.requires.contract c.requires.new leaf c.in-Some.is c.if-last-x.false).feasible

pub returns-clause-holding : goal.returns-clause-holding
returns-clause-holding c =
    let b = c.args.board.now in
    let h = c.args.holding.now in
    let leaf = leaf_of_full b h c.args.x c.leaf.result c.index.result.now c.requires.holding.kept.leaves c.leaf.ensures.leaf c.leaf.ensures.below c.index.ensures c.requires.full in
    let best = full_swapped b c.args.places.now h c.args.x c.in-Some.last c.index.result.now c.requires.holding c.requires.contract c.requires.new leaf c.in-Some.is c.if-last-x.false in
    record { kept = c.swap_at_leaf.ensures.kept; settled = settled_by b (held_in b h) (swapped (held_in b h) c.args.x c.in-Some.last) c.args.x c.swap_at_leaf.new.holding c.requires.holding.kept.hospitals (held_set (contract_count b) h.marks.items) c.requires.contract best c.swap_at_leaf.ensures.held }

pub returns-clause-held : goal.returns-clause-held
returns-clause-held c =
    let b = c.args.board.now in
    let h = c.args.holding.now in
    let leaf = leaf_of_full b h c.args.x c.leaf.result c.index.result.now c.requires.holding.kept.leaves c.leaf.ensures.leaf c.leaf.ensures.below c.index.ensures c.requires.full in
    let best = full_swapped b c.args.places.now h c.args.x c.in-Some.last c.index.result.now c.requires.holding c.requires.contract c.requires.new leaf c.in-Some.is c.if-last-x.false in
    chosen_by b (held_in b h) (swapped (held_in b h) c.args.x c.in-Some.last) c.args.x c.swap_at_leaf.new.holding c.requires.holding.kept.hospitals (held_set (contract_count b) h.marks.items) c.requires.contract best c.swap_at_leaf.ensures.held

pub returns-clause-outcome : goal.returns-clause-outcome
returns-clause-outcome c =
    let b = c.args.board.now in
    let h = c.args.holding.now in
    let plan = c.requires.holding.kept.hospitals in
    let leaf = leaf_of_full b h c.args.x c.leaf.result c.index.result.now c.requires.holding.kept.leaves c.leaf.ensures.leaf c.leaf.ensures.below c.index.ensures c.requires.full in
    let last = last_held b plan (held_in b h) (leaf_of b c.args.x) (plan.leaf c.args.x c.requires.contract) c.index.result.now leaf.kept c.in-Some.last c.in-Some.is in
    (last.held, c.swap_at_leaf.ensures.held ∙ swapped_is (held_in b h) c.in-Some.last c.args.x (held_set (contract_count b) h.marks.items).ascending last.held c.requires.new)
