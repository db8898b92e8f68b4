use Rattle.rm_market_laws.proofs.Market.{truthful_in}
use Rattle.rm_market_laws.proofs.truthfulness.Goals as goal

pub returns : goal.returns
returns c = truthful_in
