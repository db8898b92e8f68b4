-- Of private calls: what is kept of the held contracts of a hospital.
use Rattle.std.specs.Prelude.{◌≡◌, ℕ, ◌<◌, ◌≤◌, Bool, ◌&&◌, List, [], length, get_or, min, pos, Option, Some, None, IfSome, count_by}
use Rattle.std.specs.Ordering.{nat_cmp}
use Rattle.std.specs.BinaryHeap.{heap_items, heap_capacity, IsHeap}
use Rattle.rm_sets.specs.Sets.{IsIn, below}
use Rattle.rm_market.specs.Board.{Board, contract_count, node_at, cap_of, count_at}
use Rattle.rm_board.specs.TieKeys.{tie_key}
use Rattle.rm_valuation_laws.specs.Changes.{test_at}
use Rattle.rm_exchange.specs.declared.removal.Removal.{Removal}
use Rattle.rm_exchange.specs.declared.leaf.Leaf.{Leaf}

-- the greatest number of a list
pub record IsGreatest (items : List ℕ) (x : ℕ) : Type 0 where
  pub member : IsIn x items
  pub greatest : (y : ℕ) → IsIn y items → y ≤ x

-- that one, or that there is none
abbrev pub IsGreatestOf : List ℕ → Option ℕ → Type 0
IsGreatestOf items (Some x) = IsGreatest items x
IsGreatestOf items None = items ≡ []

-- by the tie key of each contract: the removal of a contract at its own leaf, where nothing is lost yet
abbrev pub own_removal : (ℕ → ℕ) → ℕ → Removal
own_removal key x = record { contract = x; tie = key x; loss = pos 0 }

-- that of a contract, if there is one
abbrev pub IsOwnRemovalOf : (ℕ → ℕ) → Option ℕ → Option Removal → Type 0
IsOwnRemovalOf key (Some x) r = r ≡ Some (own_removal key x)
IsOwnRemovalOf key None r = r ≡ None

-- the tie key that is kept of a contract, if there is one
abbrev pub IsTieOf : (ℕ → ℕ) → Option ℕ → ℕ → Type 0
IsTieOf key last tie = IfSome last (λ x. tie ≡ key x)

-- how many contracts can be held at node h: as many as its cap, or all contracts there, if these are fewer
abbrev pub room_at : Board → ℕ → ℕ
room_at b h = min (cap_of (node_at b h)) (count_at b (below (contract_count b)) h)

-- a heap of just those contracts of H that are at node h, with room for all that can be held there; the cap of the node; the greatest of
-- the heap, and its tie key
pub record IsLeafOf (b : Board) (H : List ℕ) (h : ℕ) (leaf : Leaf) : Type 0 where
  pub same : (test : ℕ → Bool) → count_by test (heap_items leaf.held) ≡ count_by (λ x. test x && test_at b h x) H
  pub room : room_at b h ≤ heap_capacity leaf.held
  pub order : IsHeap nat_cmp (heap_items leaf.held)
  pub cap : leaf.cap ≡ cap_of (node_at b h)
  pub last : IsGreatestOf (heap_items leaf.held) leaf.last
  pub tie : IsTieOf (tie_key b) leaf.last leaf.tie

-- one for each hospital
pub record AreLeaves (b : Board) (H : List ℕ) (leaves : List Leaf) : Type 0 where
  pub all : length leaves ≡ length b.ranks
  pub each : (h : ℕ) (d : Leaf) → h < length b.ranks → IsLeafOf b H h (get_or leaves h d)
