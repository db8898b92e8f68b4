use Rattle.rm_valuation_laws.proofs.Market.{concave_board}
use Rattle.rm_valuation.proofs.laminar.Laminar.new.Goals as goal

pub invariant_of-result : goal.invariant_of-result
invariant_of-result c = record { concave = concave_board c.requires.0 _ c.requires.1; leaves = c.requires.1.leaves }
