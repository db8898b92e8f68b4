use Rattle.rm_case.proofs.Solved.{own-listed, wishes-are}
use Rattle.rm_case.proofs.tests.turns.case_holds.Goals as goal

pub both_hold-requires-clause-wishes : goal.both_hold-requires-clause-wishes
both_hold-requires-clause-wishes c =
    rw (c.board-board.ensures.board, c.listed-listed.ensures.listed) (wishes-are c.args.case.now c.board-board.ensures.case _ (own-listed c.args.case.now c.board-board.ensures.case))
