-- A listed tie order, read element by element.
use Rattle.std.specs.Prelude.{◌≡◌, ◌==◌, ℕ, zero, suc, ◌+◌, ◌<◌, nat_lt, List, length, get_or, filter_map, position, Option, Some, None, IfSome, Result, Ok, Err, Vec}
use Rattle.std.specs.declared.alloc.Global.{Global}
use Rattle.std.specs.List.{IsDistinct, list_any}
use Rattle.rm_sets.specs.Sets.{has, IsIn}
use Rattle.rm_market.specs.declared.ListedPair.{ListedPair}
use Rattle.rm_market.specs.Board.{pairs_of, hospital_of_number}
use Rattle.rm_market.specs.Ties.{listed_fault, listed_order, contract_of_pair, is_named_by, is_ranked_below, last_at_hospital_of}
use Rattle.rm_market.specs.declared.BoardFault.{BoardFault}
use Rattle.rm_market.specs.declared.BoardFault.TheVariants as fault
use Rattle.rm_board.specs.declared.listing.Listing.{Listing}

-- the hospital of an element, if it is known, is one of so many
abbrev pub Names : ℕ → ListedPair → Type 0
Names hospitals p = IfSome p.hospital (λ h. h < hospitals)

-- a number of an element from 1, or 0: its place from 0, or its number
abbrev pub place_of_number : ℕ → Option ℕ
place_of_number zero = None
place_of_number (suc k) = Some k

abbrev pub number_if_any : ℕ → Option ℕ
number_if_any zero = None
number_if_any (suc k) = Some (suc k)

pub record IsWide (ranks : List (List ℕ)) (named last greatest : List ℕ) : Type 0 where
  pub contracts : length named ≡ length (pairs_of ranks)
  pub hospitals : length last ≡ length ranks
  pub all_hospitals : length greatest ≡ length ranks

-- what is known of the elements before
pub record IsListing (ranks : List (List ℕ)) (before : List ListedPair) (order named last greatest : List ℕ) : Type 0 where
  pub contracts : order ≡ filter_map (contract_of_pair ranks) before
  pub long : length order ≡ length before
  pub once : IsDistinct ◌==◌ order
  pub within : (x : ℕ) → IsIn x order → x < length (pairs_of ranks)
  pub in_order : (x : ℕ) → x < length (pairs_of ranks) → has x order ≡ nat_lt 0 (get_or named x 0)
  pub place : (x : ℕ) → x < length (pairs_of ranks) → position (is_named_by ranks x) before ≡ place_of_number (get_or named x 0)
  pub latest : (x : ℕ) → x < length (pairs_of ranks) → last_at_hospital_of ranks x before ≡ number_if_any (get_or last (hospital_of_number ranks x) 0)
  pub below : (x : ℕ) → x < length (pairs_of ranks) → list_any (is_ranked_below ranks x) before
      ≡ nat_lt (x + 1) (get_or greatest (hospital_of_number ranks x) 0)
  pub some : (h : ℕ) → get_or last h 0 ≡ 0 → get_or greatest h 0 ≡ 0

-- an element names this contract, or has this first fault
abbrev pub ReadsElement : Option BoardFault → Option ℕ → Result ℕ BoardFault → Type 0
ReadsElement first contract (Ok x) = (first ≡ None) × (contract ≡ Some x)
ReadsElement first contract (Err fault.NoMemory) = Unit {0}
ReadsElement first contract (Err e) = first ≡ Some e

-- all elements name contracts and none has a fault, or this is the first fault
abbrev pub ReadsElements : Option BoardFault → List (List ℕ) → List ListedPair → Result Listing BoardFault → Type 0
ReadsElements first ranks pairs (Ok l) = (first ≡ None) × IsListing ranks pairs l.order.items l.named.items l.last.items l.greatest.items
    × IsWide ranks l.named.items l.last.items l.greatest.items
ReadsElements first ranks pairs (Err fault.NoMemory) = Unit {0}
ReadsElements first ranks pairs (Err e) = first ≡ Some e

-- a listed order without a fault, or its first fault
abbrev pub ReadsOrder : List (List ℕ) → List ListedPair → Result (Vec ℕ Global) BoardFault → Type 0
ReadsOrder ranks pairs (Ok order) = (listed_fault ranks pairs ≡ None) × (order.items ≡ listed_order ranks pairs)
ReadsOrder ranks pairs (Err fault.NoMemory) = Unit {0}
ReadsOrder ranks pairs (Err e) = listed_fault ranks pairs ≡ Some e
