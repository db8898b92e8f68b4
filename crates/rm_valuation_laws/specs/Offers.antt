-- One offer to a held set: the walk along the offer's nodes, and the sets that it may lead to.
use Rattle.std.specs.Prelude.{◌≡◌, ℕ, ◌<◌, ◌≤◌, Bool, true, List, length, ◌⊎◌, IsTrue, IsFalse}
use Rattle.rm_sets.specs.Sets.{IsIn, IsSet, IsWithin, with_one}
use Rattle.rm_market.specs.Best.{is_better, values_of, swapped}
use Rattle.rm_market.specs.Board.{Node, Board, count, is_feasible, node_at}
use Rattle.rm_valuation_laws.specs.Changes.{test_at}

-- the three kinds of a new choice
abbrev pub ThreeKinds : List ℕ → ℕ → List ℕ → Type 0
ThreeKinds H x D = (D ≡ H) ⊎ ((D ≡ with_one H x) ⊎ ((z : ℕ) × IsIn z H × (D ≡ swapped H x z)))

-- what passes p passes q
abbrev pub IsInside : (ℕ → Bool) → (ℕ → Bool) → Type 0
IsInside p q = (x : ℕ) → p x ≡ true → q x ≡ true

-- a node that has no room
abbrev pub IsFull : Board → List ℕ → Node → Type 0
IsFull b H n = length n.steps ≤ count b n.leaves H

-- node k has x inside, and is full; or no node of x is full, and each is inside node k
abbrev pub EndsWalk : Board → List ℕ → ℕ → ℕ → Type 0
EndsWalk b H x k =
    (test_at b k x ≡ true)
    × (IsFull b H (node_at b k)
    ⊎ ((is_feasible b (with_one H x) ≡ true) × ((l : ℕ) → l < length b.nodes → test_at b l x ≡ true → IsInside (test_at b l) (test_at b k))))

-- D is a feasible subset of H with x, and none of H, H with x, and the swaps for a contract inside node k is better
pub record IsWalkAnswer (b : Board) (H : List ℕ) (x k : ℕ) (D : List ℕ) : Type 0 where
  pub set : IsSet D
  pub within : IsWithin D (with_one H x)
  pub feasible : IsTrue (is_feasible b D)
  pub not_refused : IsFalse (is_better (values_of b) H D)
  pub not_added : IsFalse (is_better (values_of b) (with_one H x) D)
  pub not_swapped : (z : ℕ) → IsIn z H → test_at b k z ≡ true → IsFalse (is_better (values_of b) (swapped H x z) D)

-- z and y lie in the same nodes of x
abbrev pub AtOneStep : Board → ℕ → ℕ → ℕ → Type 0
AtOneStep b x z y = (k : ℕ) → k < length b.nodes → test_at b k x ≡ true → test_at b k z ≡ test_at b k y
