use Rattle.rm_valuation_laws.proofs.Walk.{walk_best, at_one_step}
use Rattle.rm_valuation_laws.proofs.Cheapest.{step_decides}
use Rattle.rm_valuation_laws.proofs.one_walk.Goals as goal

pub returns : goal.returns
returns c = record { ends = walk_best; step = at_one_step; first = step_decides }
