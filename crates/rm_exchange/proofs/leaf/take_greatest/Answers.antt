use Rattle.std.specs.BinaryHeap.{heap_items}
use Rattle.rm_market.specs.Board.{contract_count}
use Rattle.rm_exchange.proofs.Greatest.{taken_is, none_there, still_there, greatest_below}
use Rattle.rm_exchange.proofs.leaf.take_greatest.Goals as goal

pub tie_of-leaf-requires : goal.tie_of-leaf-requires
tie_of-leaf-requires c =
    let old = heap_items c.args.leaf.now.held in
    let new = heap_items c.pop.new.self in
    greatest_below new (contract_count c.args.board.now) c.greatest-last.result c.greatest-last.ensures
    (λ y i. c.requires.known y (still_there old new _ c.pop.result c.pop.ensures.permutation c.pop.ensures.unchanged y i))

pub returns-clause-items : goal.returns-clause-items
returns-clause-items c = λ z i up.
    taken_is (heap_items c.args.leaf.now.held) (heap_items c.pop.new.self) z c.pop.result c.requires.order c.pop.ensures.permutation c.pop.ensures.heap_order (none_there c.args.leaf.now.held.data.len (heap_items c.args.leaf.now.held) c.pop.result c.args.leaf.now.held.data.ok.0 c.pop.ensures.none) i up
