-- Of private calls: what an offer may change: its addition, the swaps for it, and which of them is made.
use Rattle.std.specs.Prelude.{◌≡◌, ◌⊎◌, ℕ, ◌<◌, ◌≤◌, Bool, ◌&&◌, ◌||◌, nat_lt, List, length, ℤ, pos, ◌-ℤ◌, ◌≤ℤ◌, ◌<ℤ◌, int_lt, Option, Some, None, IsTrue, IsFalse, if◌then◌else◌}
use Rattle.std.specs.Ordering.{int_eq}
use Rattle.rm_sets.specs.Sets.{IsIn, with_one}
use Rattle.rm_market.specs.Board.{Board, node_at, sets_of, is_feasible}
use Rattle.rm_market.specs.Tree.{is_inside}
use Rattle.rm_market.specs.declared.Outcome.{Outcome}
use Rattle.rm_market.specs.declared.Outcome.TheVariants as out
use Rattle.rm_board.specs.TieKeys.{tie_key}
use Rattle.rm_valuation_laws.specs.Changes.{test_at, gain, swap_gain, swap_loss}
use Rattle.rm_valuation_laws.specs.Offers.{IsFull, IsInside}
use Rattle.rm_exchange.specs.declared.removal.Removal.{Removal}
use Rattle.rm_exchange.specs.declared.prospects.Swap.{Swap}
use Rattle.rm_exchange.specs.declared.prospects.Prospects.{Prospects}

-- ---- swaps

-- what the worth changes by where x replaces z in H
abbrev pub swap_change : Board → List ℕ → ℕ → ℕ → ℤ
swap_change b H x z = swap_gain b H x z -ℤ swap_loss b H x z

-- of the changes and the tie keys of two swaps: the second one changes the worth by more, or by as much, and isn't first in tie order
abbrev pub IsNoGreater : ℤ → ℕ → ℤ → ℕ → Type 0
IsNoGreater change tie other_change other_tie = (change <ℤ other_change) ⊎ ((change ≡ other_change) × (tie ≤ other_tie))

-- the best swap of x for a held contract that passes the test
pub record IsBestRated (b : Board) (H : List ℕ) (x : ℕ) (test : ℕ → Bool) (s : Swap) : Type 0 where
  pub held : IsIn s.contract H
  pub passes : IsTrue (test s.contract)
  pub tie : s.tie ≡ tie_key b s.contract
  pub change : s.change ≡ swap_change b H x s.contract
  pub best : (y : ℕ) → IsIn y H → IsTrue (test y) → IsNoGreater (swap_change b H x y) (tie_key b y) s.change s.tie

-- that swap, or that there is none
abbrev pub IsBestRatedOf : Board → List ℕ → ℕ → (ℕ → Bool) → Option Swap → Type 0
IsBestRatedOf b H x test (Some s) = IsBestRated b H x test s
IsBestRatedOf b H x test None = (y : ℕ) → IsIn y H → IsFalse (test y)

-- the better of two
abbrev pub exceeds : Swap → Swap → Bool
exceeds old new = int_lt old.change new.change || (int_eq old.change new.change && nat_lt old.tie new.tie)

abbrev pub greater_swap : Option Swap → Option Swap → Option Swap
greater_swap None next = next
greater_swap (Some old) None = Some old
greater_swap (Some old) (Some new) = if exceeds old new then Some new else Some old

-- the swap for a removal
abbrev pub IsRated : ℤ → Option Removal → Option Swap → Type 0
IsRated gain None swap = swap ≡ None
IsRated gain (Some r) swap = swap ≡ Some (record { contract = r.contract; tie = r.tie; change = gain -ℤ r.loss })

-- ---- the end of the walk

-- at node k: it is full; or no node of x is full and each lies within it, and so much does the addition of x change
abbrev pub IsOwnAddition : Board → List ℕ → ℕ → ℕ → Option ℤ → Type 0
IsOwnAddition b H x k None = IsFull b H (node_at b k)
IsOwnAddition b H x k (Some change) = IsTrue (is_feasible b (with_one H x)) × (change ≡ gain b H x)
    × ((l : ℕ) → l < length b.nodes → IsTrue (test_at b l x) → IsInside (test_at b l) (test_at b k))

-- no node of x inside the node is full; the best swap for a contract of that node; and the addition
pub record AreProspects (b : Board) (H : List ℕ) (x : ℕ) (p : Prospects) : Type 0 where
  pub node : ℕ
  pub below : node < length b.nodes
  pub has_x : IsTrue (test_at b node x)
  pub free : (l : ℕ) → l < length b.nodes → IsTrue (test_at b l x) → IsTrue (is_inside (sets_of b) l node) → ¬ IsFull b H (node_at b l)
  pub swap : IsBestRatedOf b H x (test_at b node) p.swap
  pub addition : IsOwnAddition b H x node p.addition

-- ---- the decision

-- an addition that doesn't lower the worth, and that the swap doesn't exceed
abbrev pub IsKeeping : Prospects → Type 0
IsKeeping p = (change : ℤ) × (p.addition ≡ Some change) × (pos 0 ≤ℤ change) × ((s : Swap) → p.swap ≡ Some s → s.change ≤ℤ change)

-- a swap that raises the worth, or leaves it and comes first in tie order; no addition is as good
abbrev pub IsSwapping : Prospects → ℕ → ℕ → Type 0
IsSwapping p tie z =
    (s : Swap) × (p.swap ≡ Some s) × (z ≡ s.contract) × ((pos 0 <ℤ s.change) ⊎ ((s.change ≡ pos 0) × (tie < s.tie)))
    × ((change : ℤ) → p.addition ≡ Some change → (change <ℤ pos 0) ⊎ (change <ℤ s.change))

-- the addition and the swap lower the worth, or the swap leaves it and doesn't come first in tie order
abbrev pub IsRefusing : Prospects → ℕ → Type 0
IsRefusing p tie =
    ((change : ℤ) → p.addition ≡ Some change → change <ℤ pos 0)
    × ((s : Swap) → p.swap ≡ Some s → (s.change <ℤ pos 0) ⊎ ((s.change ≡ pos 0) × (s.tie ≤ tie)))

abbrev pub IsDecided : Prospects → ℕ → Outcome → Type 0
IsDecided p tie out.Kept = IsKeeping p
IsDecided p tie (out.Swapped z) = IsSwapping p tie z
IsDecided p tie out.Refused = IsRefusing p tie
