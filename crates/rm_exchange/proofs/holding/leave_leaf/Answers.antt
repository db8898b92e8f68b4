use Rattle.std.proofs.Common.{set, sym, subst}
use Rattle.rm_sets.specs.Sets.{without}
use Rattle.rm_market.specs.Board.{contract_count, leaf_of}
use Rattle.rm_exchange.specs.Leaves.{IsLeafOf, AreLeaves}
use Rattle.rm_exchange.specs.Holding.{held_in}
use Rattle.rm_exchange.proofs.Held.{held_set}
use Rattle.rm_exchange.proofs.Homes.{leaf_test}
use Rattle.rm_exchange.proofs.Leaves.{leaf_at, known_there, member_from, greatest_there, leaf_without, leaves_without}
use Rattle.rm_exchange.proofs.holding.leave_leaf.Goals as goal

pub take_greatest-requires-clause-known : goal.take_greatest-requires-clause-known
take_greatest-requires-clause-known c =
    let b = c.args.board.now in
    let h = c.args.holding.now in
    let leaf = c.index_mut-leaf.result.now in
    known_there b (held_in b h) c.leaf.result leaf (held_set (contract_count b) h.marks.items)
    (leaf_at b (held_in b h) h.leaves.items c.leaf.result leaf c.requires.leaves c.leaf.ensures.below c.index_mut-leaf.ensures.value)

pub returns-clause-leaves : goal.returns-clause-leaves
returns-clause-leaves c =
    let b = c.args.board.now in
    let z = c.args.z in
    let H = held_in b c.args.holding.now in
    let sH = held_set (contract_count b) c.args.holding.now.marks.items in
    let leaf = c.index_mut-leaf.result.now in
    let k : IsLeafOf b H (leaf_of b z) leaf = subst (λ h. IsLeafOf b H h leaf) c.leaf.ensures.leaf (leaf_at b H c.args.holding.now.leaves.items c.leaf.result leaf c.requires.leaves c.leaf.ensures.below c.index_mut-leaf.ensures.value) in
    let test = leaf_test b c.requires.hospitals z c.requires.contract in
    let items = c.take_greatest.ensures.items z (member_from b H (leaf_of b z) z leaf k c.requires.held test) (greatest_there b c.requires.hospitals H z leaf c.requires.contract c.requires.greatest k) in
    let next = leaf_without b H (leaf_of b z) z leaf c.take_greatest.new.leaf sH.ascending c.requires.held test k items c.take_greatest.ensures.order c.take_greatest.ensures.last c.take_greatest.ensures.tie c.take_greatest.ensures.cap c.take_greatest.ensures.room in
    subst (λ h. AreLeaves b (without H z) (set c.args.holding.now.leaves.items h c.take_greatest.new.leaf)) (sym c.leaf.ensures.leaf)
    (leaves_without b c.requires.hospitals H z c.args.holding.now.leaves.items c.take_greatest.new.leaf sH c.requires.contract c.requires.leaves next)
