use Rattle.std.proofs.Common.{◌≡◌, ◌++◌, filter_map, take}
use Rattle.rm_market.specs.Board.{number_of}
use Rattle.rm_board.proofs.wishes.add_found.Given as goal

abbrev pub invariant-loop-i : goal.invariant-loop-i
invariant-loop-i l = l.own.items ≡ l.initial.own.items ++ filter_map (number_of l.contracts l.d) (take l.i l.hospitals)
