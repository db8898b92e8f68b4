-- What the rules of ties ask and answer.
use Rattle.std.specs.Prelude.{◌≡◌, ℕ, List, All, Option, Some, None, Result, Ok, Err, Vec}
use Rattle.std.specs.declared.alloc.Global.{Global}
use Rattle.rm_market.specs.Board.{IsTieOrder}
use Rattle.rm_market.specs.Ties.{by_hospital, by_rank, listed_order, listed_fault}
use Rattle.rm_market.specs.declared.BoardFault.{BoardFault}
use Rattle.rm_market.specs.declared.BoardFault.TheVariants as fault
use Rattle.rm_board.specs.ListedElements.{Names}
use Rattle.rm_board.specs.declared.ties.TieRule.{TieRule}
use Rattle.rm_board.specs.declared.ties.TieRule.TheVariants as rule

-- each hospital that a listed order names is one of so many
abbrev pub AreKnown : ℕ → TieRule → Type 0
AreKnown hospitals (rule.Listed pairs) = All (Names hospitals) pairs.now
AreKnown hospitals _ = Unit {0}

abbrev pub order_of : List (List ℕ) → TieRule → List ℕ
order_of ranks rule.ByRank = by_rank ranks
order_of ranks rule.ByHospital = by_hospital ranks
order_of ranks (rule.Listed pairs) = listed_order ranks pairs.now

abbrev pub fault_of : List (List ℕ) → TieRule → Option BoardFault
fault_of ranks (rule.Listed pairs) = listed_fault ranks pairs.now
fault_of ranks _ = None

-- the order of the rule, which is a tie order, or the first fault
abbrev pub Orders : List (List ℕ) → TieRule → Result (Vec ℕ Global) BoardFault → Type 0
Orders ranks r (Ok order) = (fault_of ranks r ≡ None) × (order.items ≡ order_of ranks r) × IsTieOrder ranks order.items
Orders ranks r (Err fault.NoMemory) = Unit {0}
Orders ranks r (Err e) = fault_of ranks r ≡ Some e
