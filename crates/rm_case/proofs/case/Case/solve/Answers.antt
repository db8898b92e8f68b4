use Rattle.std.proofs.lemmas.Result.{IfOk-weaker}
use Rattle.rm_market_laws.proofs.Market.{same_in}
use Rattle.rm_case.specs.Case.{market}
use Rattle.rm_case.proofs.Solved.{own-listed, own-solved}
use Rattle.rm_case.proofs.case.Case.solve.Goals as goal

pub solve_with-requires : goal.solve_with-requires
solve_with-requires c = rw c.listed.ensures.listed (own-listed c.args.self.now c.listed.ensures.case)

pub returns-clause-solved : goal.returns-clause-solved
returns-clause-solved c =
    IfOk-weaker c.solve_with.result _ _
    (λ places found. own-solved c.args.self.now c.listed.ensures.case places (rw c.listed.ensures.listed at found))
    c.solve_with.ensures

pub returns-clause-same : goal.returns-clause-same
returns-clause-same c = same_in (market c.args.self.now) c.listed.ensures.case.market
