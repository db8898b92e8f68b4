use Rattle.rm_valuation_laws.proofs.Market.{market_board_laws}
use Rattle.rm_valuation_laws.proofs.market_boards_are_m_natural_concave.Goals as goal

pub returns : goal.returns
returns c = market_board_laws
