-- The order of each rule is a tie order.
use Rattle.std.proofs.Common.{◌≡◌, List, ℕ, Ok, Err, Result, Vec, Bor, refl}
use Rattle.std.specs.declared.alloc.Global.{Global}
use Rattle.rm_market.specs.declared.ListedPair.{ListedPair}
use Rattle.rm_market.specs.Ties.{by_hospital, by_rank}
use Rattle.rm_market.specs.declared.BoardFault.{BoardFault}
use Rattle.rm_market.specs.declared.BoardFault.TheVariants.{Unknown, Repeated, AgainstRank, Missing, NoMemory}
use Rattle.rm_board_laws.proofs.TieOrders.{hospital_ties, rank_ties}
use Rattle.rm_board_laws.proofs.ListedOrder.{listed_ties}
use Rattle.rm_board.specs.ListedElements.{ReadsOrder}
use Rattle.rm_board.specs.Rules.{Orders}
use Rattle.rm_board.specs.declared.ties.TieRule.{TieRule}
use Rattle.rm_board.specs.declared.ties.TieRule.TheVariants as rule

pub rank-orders : (ranks : List (List ℕ)) (r : TieRule) (order : Vec ℕ Global) → r ≡ rule.ByRank → order.items ≡ by_rank ranks → Orders ranks r (Ok order)
rank-orders ranks r order is e = rw is (refl, e, rw e (rank_ties ranks))

pub hospital-orders : (ranks : List (List ℕ)) (r : TieRule) (order : Vec ℕ Global) → r ≡ rule.ByHospital → order.items ≡ by_hospital ranks → Orders ranks r (Ok order)
hospital-orders ranks r order is e = rw is (refl, e, rw e (hospital_ties ranks))

pub listed-orders : (ranks : List (List ℕ)) (r : TieRule) (pairs : Bor (List ListedPair)) (result : Result (Vec ℕ Global) BoardFault) → r ≡ rule.Listed pairs → ReadsOrder ranks pairs.now result → Orders ranks r result
listed-orders ranks r pairs (Ok order) is (fine, e) = rw is (fine, e, rw e (listed_ties ranks pairs.now fine))
listed-orders ranks r pairs (Err (Unknown k)) is h = rw is h
listed-orders ranks r pairs (Err (Repeated k f)) is h = rw is h
listed-orders ranks r pairs (Err (AgainstRank k f)) is h = rw is h
listed-orders ranks r pairs (Err (Missing d k)) is h = rw is h
listed-orders ranks r pairs (Err NoMemory) is h = tt
