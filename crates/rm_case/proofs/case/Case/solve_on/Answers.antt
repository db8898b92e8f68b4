use Rattle.rm_case.proofs.Solved.{wishes-on}
use Rattle.rm_case.proofs.case.Case.solve_on.Goals as goal

pub place_with-requires-clause-wishes : goal.place_with-requires-clause-wishes
place_with-requires-clause-wishes c = wishes-on c.args.self.now c.listed.ensures.case c.args.board.now c.listed.result.now c.requires.contracts c.listed.ensures.listed
