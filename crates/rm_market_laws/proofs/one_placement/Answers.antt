use Rattle.rm_market_laws.proofs.Market.{placement_exists, solve_is, has_placement}
use Rattle.rm_market_laws.proofs.one_placement.Goals as goal

pub returns : goal.returns
returns c = record { exists = placement_exists; solved = solve_is; reached = has_placement }
