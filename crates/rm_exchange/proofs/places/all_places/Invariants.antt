use Rattle.std.proofs.Common.{◌≡◌, length}
use Rattle.rm_exchange.specs.Holding.{ArePlacedSo}
use Rattle.rm_exchange.proofs.places.all_places.Given as goal

abbrev pub invariant-loop-node : goal.invariant-loop-node
invariant-loop-node l = record { wide : length l.widths.items ≡ length l.board.nodes; placed : ArePlacedSo l.board l.node l.widths.items l.places.items }
