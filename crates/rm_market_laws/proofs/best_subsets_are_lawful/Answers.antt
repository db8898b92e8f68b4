use Rattle.rm_market_laws.proofs.Market.{choice, plain_best}
use Rattle.rm_market_laws.proofs.best_subsets_are_lawful.Goals as goal

pub returns : goal.returns
returns c = record { plain = plain_best; lawful = choice }
