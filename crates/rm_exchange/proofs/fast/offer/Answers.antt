use Rattle.std.proofs.Common.{◌∙◌, sym, ap, refl, subst}
use Rattle.rm_sets.specs.Sets.{has, with_one}
use Rattle.rm_market.specs.Board.{contract_count, node_at, is_feasible}
use Rattle.rm_market.specs.Best.{swapped}
use Rattle.rm_valuation_laws.specs.Offers.{IsFull}
use Rattle.rm_valuation_laws.proofs.Moves.{without_other, apart}
use Rattle.rm_board.specs.TieKeys.{tie_key}
use Rattle.rm_exchange.specs.Holding.{held_in}
use Rattle.rm_exchange.proofs.Held.{held_set}
use Rattle.rm_exchange.proofs.Deciding.{kept_best, swapped_best, refused_best}
use Rattle.rm_exchange.proofs.Leaves.{leaf_at}
use Rattle.rm_exchange.proofs.FullLeaf.{leaf_full}
use Rattle.rm_exchange.proofs.Offered.{own_best, offered, displaced_greatest, settled_by, chosen_by, swapped_is}
use Rattle.rm_exchange.proofs.fast.offer.Goals as goal

pub offer_to_full-requires-clause-full : goal.offer_to_full-requires-clause-full
offer_to_full-requires-clause-full c =
    let b = c.args.board.now in
    let h = c.args.holding.now in
    subst (λ a. IsFull b (held_in b h) (node_at b a)) c.leaf.ensures.leaf
    (leaf_full b (held_in b h) c.leaf.result c.index-leaf.result.now (leaf_at b (held_in b h) h.leaves.items c.leaf.result c.index-leaf.result.now c.requires.holding.kept.leaves c.leaf.ensures.below c.index-leaf.ensures) (c.is_full.ensures.0 c.if-is_full.true))

pub walk-prospects-requires-clause-feasible : goal.walk-prospects-requires-clause-feasible
walk-prospects-requires-clause-feasible c =
    let b = c.args.board.now in
    (own_best b (held_in b c.args.holding.now) c.requires.holding.kept.hospitals (held_set (contract_count b) c.args.holding.now.marks.items) c.requires.holding.settled).feasible

pub walk-prospects-requires-clause-kept : goal.walk-prospects-requires-clause-kept
walk-prospects-requires-clause-kept c = (c.args.places.now, c.requires.holding.kept)

pub release-requires-clause-contract : goal.release-requires-clause-contract
release-requires-clause-contract c =
    let b = c.args.board.now in
    let o = offered b c.args.places.now c.args.holding.now c.args.x c.walk-prospects.result c.requires.holding c.requires.contract c.requires.new c.walk-prospects.ensures in
    let best = swapped_best b (held_in b c.args.holding.now) c.args.x c.walk-prospects.result o (tie_key b c.args.x) refl c.in-Swapped.z c.in-Swapped.ensures in
    (held_set (contract_count b) c.args.holding.now.marks.items).below c.in-Swapped.z best.0

pub release-requires-clause-held : goal.release-requires-clause-held
release-requires-clause-held c =
    let b = c.args.board.now in
    let o = offered b c.args.places.now c.args.holding.now c.args.x c.walk-prospects.result c.requires.holding c.requires.contract c.requires.new c.walk-prospects.ensures in
    (swapped_best b (held_in b c.args.holding.now) c.args.x c.walk-prospects.result o (tie_key b c.args.x) refl c.in-Swapped.z c.in-Swapped.ensures).0

pub release-requires-clause-greatest : goal.release-requires-clause-greatest
release-requires-clause-greatest c =
    let b = c.args.board.now in
    displaced_greatest b (held_in b c.args.holding.now) c.args.x c.walk-prospects.result (tie_key b c.args.x) c.in-Swapped.z c.requires.holding.kept.hospitals (held_set (contract_count b) c.args.holding.now.marks.items) c.walk-prospects.ensures c.in-Swapped.ensures

pub hold-requires-in-Swapped-clause-new : goal.hold-requires-in-Swapped-clause-new
hold-requires-in-Swapped-clause-new c =
    let b = c.args.board.now in
    let H = held_in b c.args.holding.now in
    let o = offered b c.args.places.now c.args.holding.now c.args.x c.walk-prospects.result c.requires.holding c.requires.contract c.requires.new c.walk-prospects.ensures in
    let best = swapped_best b H c.args.x c.walk-prospects.result o (tie_key b c.args.x) refl c.in-Swapped.z c.in-Swapped.ensures in
    ap (has c.args.x) c.release.ensures.held ∙ (without_other H c.in-Swapped.z c.args.x (λ e. apart H c.in-Swapped.z c.args.x best.0 c.requires.new (sym e)) ∙ c.requires.new)

pub hold-requires-clause-feasible : goal.hold-requires-clause-feasible
hold-requires-clause-feasible c =
    let b = c.args.board.now in
    let o = offered b c.args.places.now c.args.holding.now c.args.x c.walk-prospects.result c.requires.holding c.requires.contract c.requires.new c.walk-prospects.ensures in
    (kept_best b (held_in b c.args.holding.now) c.args.x c.walk-prospects.result o c.in-Kept.ensures).feasible

pub hold-requires-in-Swapped-clause-feasible : goal.hold-requires-in-Swapped-clause-feasible
hold-requires-in-Swapped-clause-feasible c =
    let b = c.args.board.now in
    let H = held_in b c.args.holding.now in
    let o = offered b c.args.places.now c.args.holding.now c.args.x c.walk-prospects.result c.requires.holding c.requires.contract c.requires.new c.walk-prospects.ensures in
    let best = swapped_best b H c.args.x c.walk-prospects.result o (tie_key b c.args.x) refl c.in-Swapped.z c.in-Swapped.ensures in
    ap (λ S. is_feasible b (with_one S c.args.x)) c.release.ensures.held ∙ best.1.feasible

pub returns-in-Kept-clause-holding : goal.returns-in-Kept-clause-holding
returns-in-Kept-clause-holding c =
    let b = c.args.board.now in
    let H = held_in b c.args.holding.now in
    let o = offered b c.args.places.now c.args.holding.now c.args.x c.walk-prospects.result c.requires.holding c.requires.contract c.requires.new c.walk-prospects.ensures in
    let best = kept_best b H c.args.x c.walk-prospects.result o c.in-Kept.ensures in
    record { kept = c.hold.ensures.kept; settled = settled_by b H (with_one H c.args.x) c.args.x c.hold.new.holding c.requires.holding.kept.hospitals (held_set (contract_count b) c.args.holding.now.marks.items) c.requires.contract best c.hold.ensures.held }

pub returns-in-Kept-clause-held : goal.returns-in-Kept-clause-held
returns-in-Kept-clause-held c =
    let b = c.args.board.now in
    let H = held_in b c.args.holding.now in
    let o = offered b c.args.places.now c.args.holding.now c.args.x c.walk-prospects.result c.requires.holding c.requires.contract c.requires.new c.walk-prospects.ensures in
    let best = kept_best b H c.args.x c.walk-prospects.result o c.in-Kept.ensures in
    chosen_by b H (with_one H c.args.x) c.args.x c.hold.new.holding c.requires.holding.kept.hospitals (held_set (contract_count b) c.args.holding.now.marks.items) c.requires.contract best c.hold.ensures.held

pub returns-in-Refused-clause-held : goal.returns-in-Refused-clause-held
returns-in-Refused-clause-held c =
    let b = c.args.board.now in
    let H = held_in b c.args.holding.now in
    let o = offered b c.args.places.now c.args.holding.now c.args.x c.walk-prospects.result c.requires.holding c.requires.contract c.requires.new c.walk-prospects.ensures in
    let best = refused_best b H c.args.x c.walk-prospects.result o (tie_key b c.args.x) refl c.in-Refused.ensures in
    chosen_by b H H c.args.x c.args.holding.now c.requires.holding.kept.hospitals (held_set (contract_count b) c.args.holding.now.marks.items) c.requires.contract best refl

pub returns-in-Swapped-clause-holding : goal.returns-in-Swapped-clause-holding
returns-in-Swapped-clause-holding c =
    let b = c.args.board.now in
    let H = held_in b c.args.holding.now in
    let o = offered b c.args.places.now c.args.holding.now c.args.x c.walk-prospects.result c.requires.holding c.requires.contract c.requires.new c.walk-prospects.ensures in
    let best = swapped_best b H c.args.x c.walk-prospects.result o (tie_key b c.args.x) refl c.in-Swapped.z c.in-Swapped.ensures in
    record { kept = c.hold-in-Swapped.ensures.kept; settled = settled_by b H (swapped H c.args.x c.in-Swapped.z) c.args.x c.hold-in-Swapped.new.holding c.requires.holding.kept.hospitals (held_set (contract_count b) c.args.holding.now.marks.items) c.requires.contract best.1 (c.hold-in-Swapped.ensures.held ∙ ap (λ S. with_one S c.args.x) c.release.ensures.held) }

pub returns-in-Swapped-clause-held : goal.returns-in-Swapped-clause-held
returns-in-Swapped-clause-held c =
    let b = c.args.board.now in
    let H = held_in b c.args.holding.now in
    let o = offered b c.args.places.now c.args.holding.now c.args.x c.walk-prospects.result c.requires.holding c.requires.contract c.requires.new c.walk-prospects.ensures in
    let best = swapped_best b H c.args.x c.walk-prospects.result o (tie_key b c.args.x) refl c.in-Swapped.z c.in-Swapped.ensures in
    chosen_by b H (swapped H c.args.x c.in-Swapped.z) c.args.x c.hold-in-Swapped.new.holding c.requires.holding.kept.hospitals (held_set (contract_count b) c.args.holding.now.marks.items) c.requires.contract best.1 (c.hold-in-Swapped.ensures.held ∙ ap (λ S. with_one S c.args.x) c.release.ensures.held)

pub returns-in-Swapped-clause-outcome : goal.returns-in-Swapped-clause-outcome
returns-in-Swapped-clause-outcome c =
    let b = c.args.board.now in
    let H = held_in b c.args.holding.now in
    let o = offered b c.args.places.now c.args.holding.now c.args.x c.walk-prospects.result c.requires.holding c.requires.contract c.requires.new c.walk-prospects.ensures in
    let best = swapped_best b H c.args.x c.walk-prospects.result o (tie_key b c.args.x) refl c.in-Swapped.z c.in-Swapped.ensures in
    (best.0, c.hold-in-Swapped.ensures.held ∙ (ap (λ S. with_one S c.args.x) c.release.ensures.held ∙ swapped_is H c.in-Swapped.z c.args.x (held_set (contract_count b) c.args.holding.now.marks.items).ascending best.0 c.requires.new))
