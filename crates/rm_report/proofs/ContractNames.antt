-- The doctor and the hospital of a contract have names.
use Rattle.std.proofs.Common.{◌≡◌, ◌<◌, ℕ, length, arith}
use Rattle.std.proofs.lemmas.List.{get_or-map}
use Rattle.rm_market.specs.Board.{contracts, contract_count, doctor_of}
use Rattle.rm_market_laws.proofs.Wishes.{are_wishes, listed_long}
use Rattle.rm_case.specs.Compiled.{compiled_board}
use Rattle.rm_case.specs.Case.{CaseData, IsCase, market}

pub doctor-named : (c : CaseData) (x : ℕ) → IsCase c → x < contract_count (market c).board → doctor_of (market c).board x < length c.roster.doctors
doctor-named c x is low =
    omega (arith, (are_wishes (market c) is.market).owners x low, get_or-map (λ p. p.0) (contracts (market c).board) x (0, 0) 0 low, listed_long (market c) is.market, is.roster.list_each)

-- there is a rank list for each hospital
pub ranks-each : (c : CaseData) → IsCase c → length (market c).board.ranks ≡ length c.roster.hospitals
unfolding compiled_board
ranks-each c is = is.roster.rank_each
