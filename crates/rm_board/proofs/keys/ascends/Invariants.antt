use Rattle.rm_board.specs.TieKeys.{rank_key}
use Rattle.rm_board.proofs.TieKeys.{AscendsTo}
use Rattle.rm_board.proofs.keys.ascends.Given as goal

abbrev pub invariant-loop-i : goal.invariant-loop-i
invariant-loop-i l = AscendsTo (rank_key l.contracts) l.i l.order
