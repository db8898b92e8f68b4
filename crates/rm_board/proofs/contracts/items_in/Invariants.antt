use Rattle.std.proofs.Common.{◌≡◌, take, length}
use Rattle.std.specs.List.{sum_by}
use Rattle.rm_board.proofs.contracts.items_in.Given as goal

abbrev pub invariant-loop-i : goal.invariant-loop-i
invariant-loop-i l = l.count ≡ sum_by length (take l.i l.lists)
