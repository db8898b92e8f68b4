use Rattle.std.proofs.Common.{All, length}
use Rattle.rm_board.specs.ListedElements.{Names}
use Rattle.rm_board.proofs.tests.fault.Given as goal

abbrev pub invariant-loop-i : goal.invariant-loop-i
invariant-loop-i l = All (Names (length l.contracts)) l.pairs.items
