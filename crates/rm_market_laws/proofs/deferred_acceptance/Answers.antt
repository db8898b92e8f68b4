use Rattle.rm_market_laws.proofs.Market.{runs_well_in, runs_close_in}
use Rattle.rm_market_laws.proofs.deferred_acceptance.Goals as goal

pub returns : goal.returns
returns c = record { runs = runs_well_in; closes = runs_close_in }
