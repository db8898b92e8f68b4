use Rattle.rm_board.proofs.ListedOrders.{AreRead}
use Rattle.rm_board.proofs.listing.read_elements.Given as goal

abbrev pub invariant-loop-i : goal.invariant-loop-i
invariant-loop-i l = AreRead l.contracts l.pairs l.i l.listing.order.items l.listing.named.items l.listing.last.items l.listing.greatest.items
