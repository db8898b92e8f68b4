use Rattle.rm_valuation_laws.proofs.Change.{gain_by_chain, loss_by_chain}
use Rattle.rm_valuation_laws.proofs.sums_along_chains.Goals as goal

pub returns : goal.returns
returns c = record { gain = gain_by_chain; loss = loss_by_chain }
