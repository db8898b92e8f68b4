use Rattle.std.proofs.Common.{◌≡◌, filter_map, take}
use Rattle.rm_market.specs.Board.{number_of}
use Rattle.rm_case.proofs.replaced.contracts_at.Given as goal

abbrev pub invariant-loop-i : goal.invariant-loop-i
invariant-loop-i l = l.own.items ≡ filter_map (number_of l.board.ranks l.d) (take l.i l.hospitals)
