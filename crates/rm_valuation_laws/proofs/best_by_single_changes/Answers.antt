use Rattle.rm_valuation_laws.proofs.GreedySteps.{best_iff_unimproved}
use Rattle.rm_valuation_laws.proofs.best_by_single_changes.Goals as goal

pub returns : goal.returns
returns c = best_iff_unimproved
