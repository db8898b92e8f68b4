use Rattle.rm_valuation_laws.proofs.Best.{choice_from_bests}
use Rattle.rm_valuation_laws.proofs.best_subsets_are_lawful.Goals as goal

pub returns : goal.returns
returns c = choice_from_bests
