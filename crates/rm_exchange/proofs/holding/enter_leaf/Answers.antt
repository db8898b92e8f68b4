use Rattle.std.proofs.Common.{set, sym, subst}
use Rattle.rm_sets.specs.Sets.{with_one}
use Rattle.rm_market.specs.Board.{contract_count, leaf_of}
use Rattle.rm_exchange.specs.Leaves.{IsLeafOf, AreLeaves}
use Rattle.rm_exchange.specs.Holding.{held_in}
use Rattle.rm_exchange.proofs.Held.{held_set}
use Rattle.rm_exchange.proofs.Homes.{leaf_test}
use Rattle.rm_exchange.proofs.Leaves.{leaf_at, leaf_room, leaf_with, leaves_with}
use Rattle.rm_exchange.proofs.holding.enter_leaf.Goals as goal

pub put_in-requires-clause-room : goal.put_in-requires-clause-room
put_in-requires-clause-room c =
    let b = c.args.board.now in
    let H = held_in b c.args.holding.now in
    let leaf = c.index_mut-leaf.result.now in
    let k : IsLeafOf b H (leaf_of b c.args.x) leaf = subst (λ h. IsLeafOf b H h leaf) c.leaf.ensures.leaf (leaf_at b H c.args.holding.now.leaves.items c.leaf.result leaf c.requires.leaves c.leaf.ensures.below c.index_mut-leaf.ensures.value) in
    leaf_room b c.requires.hospitals H c.args.x leaf (held_set (contract_count b) c.args.holding.now.marks.items) c.requires.contract c.requires.new c.requires.feasible k

pub returns-clause-leaves : goal.returns-clause-leaves
returns-clause-leaves c =
    let b = c.args.board.now in
    let x = c.args.x in
    let H = held_in b c.args.holding.now in
    let leaf = c.index_mut-leaf.result.now in
    let k : IsLeafOf b H (leaf_of b x) leaf = subst (λ h. IsLeafOf b H h leaf) c.leaf.ensures.leaf (leaf_at b H c.args.holding.now.leaves.items c.leaf.result leaf c.requires.leaves c.leaf.ensures.below c.index_mut-leaf.ensures.value) in
    let next = leaf_with b H (leaf_of b x) x leaf c.put_in.new.leaf c.requires.new (leaf_test b c.requires.hospitals x c.requires.contract) k c.put_in.ensures.items c.put_in.ensures.order c.put_in.ensures.last c.put_in.ensures.tie c.put_in.ensures.cap c.put_in.ensures.room in
    subst (λ h. AreLeaves b (with_one H x) (set c.args.holding.now.leaves.items h c.put_in.new.leaf)) (sym c.leaf.ensures.leaf)
    (leaves_with b c.requires.hospitals H x c.args.holding.now.leaves.items c.put_in.new.leaf (held_set (contract_count b) c.args.holding.now.marks.items) c.requires.contract c.requires.leaves next)
