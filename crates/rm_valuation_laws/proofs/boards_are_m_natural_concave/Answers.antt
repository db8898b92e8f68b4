use Rattle.rm_valuation_laws.proofs.LaminarExchange.{board_laws}
use Rattle.rm_valuation_laws.proofs.boards_are_m_natural_concave.Goals as goal

pub returns : goal.returns
returns c = board_laws
