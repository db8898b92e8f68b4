-- The order of a board's nodes: which lie inside which, and which stand just outside.
use Rattle.std.specs.Prelude.{ℕ, ◌<◌, Bool, ◌||◌, ◌==◌, length, IsTrue, IsFalse}
use Rattle.rm_market.specs.Board.{Board, sets_of}
use Rattle.rm_market.specs.Tree.{is_inside}

-- node k is a, or lies inside it
abbrev pub is_under : Board → ℕ → ℕ → Bool
is_under b k a = (k == a) || is_inside (sets_of b) k a

-- a is the node just outside d
pub record IsParent (b : Board) (d a : ℕ) : Type 0 where
  pub inside : IsTrue (is_inside (sets_of b) d a)
  pub next : (k : ℕ) → k < length b.nodes → IsTrue (is_inside (sets_of b) d k) → IsTrue (is_under b a k)

-- no node lies inside a, or outside it
abbrev pub IsLeafNode : Board → ℕ → Type 0
IsLeafNode b a = (k : ℕ) → k < length b.nodes → IsFalse (is_inside (sets_of b) k a)

abbrev pub IsRoot : Board → ℕ → Type 0
IsRoot b a = (k : ℕ) → k < length b.nodes → IsFalse (is_inside (sets_of b) a k)
