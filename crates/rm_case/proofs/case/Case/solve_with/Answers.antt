use Rattle.rm_case.proofs.Solved.{wishes-are}
use Rattle.rm_case.proofs.case.Case.solve_with.Goals as goal

pub place_with-requires-clause-wishes : goal.place_with-requires-clause-wishes
place_with-requires-clause-wishes c =
    rw c.board-board.ensures.board (wishes-are c.args.self.now c.board-board.ensures.case c.args.listed.now c.requires)

pub returns : goal.returns
returns c = rw c.board-board.ensures.board at c.place_with.ensures
