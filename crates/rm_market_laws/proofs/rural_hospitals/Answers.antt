use Rattle.rm_market_laws.proofs.Market.{same_in}
use Rattle.rm_market_laws.proofs.rural_hospitals.Goals as goal

pub returns : goal.returns
returns c = same_in
