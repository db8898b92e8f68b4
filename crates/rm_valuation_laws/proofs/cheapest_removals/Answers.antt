use Rattle.rm_valuation_laws.proofs.Cheapest.{cheapest_from_children, cheapest_of_leaf, cheapest_agree}
use Rattle.rm_valuation_laws.proofs.cheapest_removals.Goals as goal

pub returns : goal.returns
returns c = record { children = cheapest_from_children; leaf = cheapest_of_leaf; agree = cheapest_agree }
