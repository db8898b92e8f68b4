use Rattle.rm_board.proofs.Places.{board-kept, board-built}
use Rattle.rm_board.proofs.board.Board.build.Goals as goal

pub invariant_of-result : goal.invariant_of-result
invariant_of-result c =
    let placed = rw c.deref.ensures.value at c.in-Ok-places_in.ensures in
    board-kept _ _ _ c.in_ok-order.ensures.2 placed.wide placed.places c.args.tree c.args.steps.items c.is_ranked-ranked.result (rw c.in-Ok.ensures c.requires.hospitals) c.requires.steps (rw c.deref-2.ensures.value at c.is_ranked-ranked.ensures)

pub returns : goal.returns
returns c =
    let placed = rw c.deref.ensures.value at c.in-Ok-places_in.ensures in
    let orders = c.in_ok-order.ensures in
    board-built _ _ _ orders.2 placed.wide placed.places c.args.ranks.now c.args.tree c.args.steps.items c.args.ties c.in-Ok.ensures orders.0 orders.1
