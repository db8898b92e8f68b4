-- Of private calls: the contracts that block a placement.
use Rattle.std.specs.Prelude.{◌≡◌, ◌⊎◌, ℕ, ◌<◌, ◌≤◌, Bool, true, false, ◌&&◌, ◌||◌, nat_lt, List, [], length, get_or, ℤ, int_lt, Option, Some, None, IsFalse}
use Rattle.std.specs.Ordering.{int_eq}
use Rattle.rm_sets.specs.Sets.{has, IsSetBelow, with_one}
use Rattle.rm_market.specs.Board.{Board, contract_count}
use Rattle.rm_market.specs.Best.{IsBest, values_of}
use Rattle.rm_market.specs.declared.Finding.{Finding}
use Rattle.rm_market.specs.declared.Finding.TheVariants.{Blocks, Stable}
use Rattle.rm_valuation.specs.Counts.{AreCounts}
use Rattle.rm_audit.specs.Placed.{AreCheapest}
use Rattle.rm_audit.specs.declared.placed.Removal.{Removal}

-- a set that is its own best subset, with its counts by node and its cheapest removals
pub record IsWeighed (b : Board) (S counts : List ℕ) (cheapest : List (Option Removal)) : Type 0 where
  pub set : IsSetBelow (contract_count b) S
  pub own : IsBest (values_of b) S S
  pub counted : AreCounts b S counts
  pub removals : AreCheapest b S S cheapest

-- by what an offer gains and by its tie key: with the offer in its place the removal raises the worth, or leaves it, and the offer is first
-- in tie order
abbrev pub gains_by : ℤ → ℕ → Option Removal → Bool
gains_by gain tie None = false
gains_by gain tie (Some r) = int_lt r.loss gain || (int_eq r.loss gain && nat_lt tie r.tie)

-- S stays the best subset with x too
abbrev pub IsUnmoved : Board → List ℕ → ℕ → Type 0
IsUnmoved b S x = IsBest (values_of b) (with_one S x) S

-- whether it doesn't
abbrev pub IsAnswer : Board → List ℕ → ℕ → Bool → Type 0
IsAnswer b S x true = ¬ IsUnmoved b S x
IsAnswer b S x false = IsUnmoved b S x

-- for each of n contracts whether S has it
pub record AreMarks (n : ℕ) (S : List ℕ) (marks : List Bool) : Type 0 where
  pub all : length marks ≡ n
  pub each : (x : ℕ) → x < n → get_or marks x false ≡ has x S

-- the i-th contract of a list, where S has none of the list up to it
abbrev pub IsReachedAt : List ℕ → List ℕ → ℕ → Type 0
IsReachedAt S list i = (i < length list) × ((j : ℕ) → j ≤ i → IsFalse (has (get_or list j 0) S))

-- x is one of the first so many contracts of the list, and S has none of the list up to it
abbrev pub IsReachedBy : List ℕ → List ℕ → ℕ → ℕ → Type 0
IsReachedBy S list end x = (i : ℕ) × (i < end) × (x ≡ get_or list i 0) × IsReachedAt S list i

-- x is so in one of the first so many lists
abbrev pub IsReachedIn : List ℕ → List (List ℕ) → ℕ → ℕ → Type 0
IsReachedIn S lists end x = (d : ℕ) × (d < end) × IsReachedBy S (get_or lists d []) (length (get_or lists d [])) x

-- the least of `first` and of those contracts with which S doesn't stay
pub record IsLeastOfThem (b : Board) (S : List ℕ) (P : ℕ → Type 0) (first least : ℕ) : Type 0 where
  pub from : (least ≡ first) ⊎ (P least × ¬ IsUnmoved b S least)
  pub low : least ≤ first
  pub all : (x : ℕ) → P x → (least ≤ x) ⊎ IsUnmoved b S x

-- the least reached contract of all lists with which S doesn't stay; or there is none
abbrev pub IsFirstBlocking : Board → List (List ℕ) → List ℕ → Option ℕ → Type 0
IsFirstBlocking b lists S (Some x) =
    IsReachedIn S lists (length lists) x × ¬ IsUnmoved b S x × ((y : ℕ) → IsReachedIn S lists (length lists) y → (x ≤ y) ⊎ IsUnmoved b S y)
IsFirstBlocking b lists S None = (y : ℕ) → IsReachedIn S lists (length lists) y → IsUnmoved b S y

-- the finding on a set that is its own best subset, from the least contract that blocks it
abbrev pub blocking_finding : Option ℕ → Finding
blocking_finding (Some x) = Blocks x
blocking_finding None = Stable
