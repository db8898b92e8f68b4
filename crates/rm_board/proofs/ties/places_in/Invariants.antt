use Rattle.std.proofs.Common.{length}
use Rattle.rm_market.specs.Board.{pairs_of}
use Rattle.rm_board.proofs.Places.{ArePlaces}
use Rattle.rm_board.proofs.ties.places_in.Given as goal

abbrev pub invariant-loop-place : goal.invariant-loop-place
invariant-loop-place l = ArePlaces (length (pairs_of l.contracts)) l.place l.order l.places.items
