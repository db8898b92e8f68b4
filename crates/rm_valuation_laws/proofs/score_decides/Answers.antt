use Rattle.rm_valuation_laws.proofs.Decides.{better_iff_higher, laws_strict, laws_exchange, laws_size_exchange}
use Rattle.rm_valuation_laws.proofs.score_decides.Goals as goal

pub returns : goal.returns
returns c = record { better = better_iff_higher; strict = laws_strict; exchange = laws_exchange; size_exchange = laws_size_exchange }
