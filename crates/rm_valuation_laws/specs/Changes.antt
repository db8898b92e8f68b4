-- Boards whose worth is a valuation, and what single changes do to it.
use Rattle.std.specs.List.{IsDistinct}
use Rattle.std.specs.Prelude.{List, Bool, false, ◌≡◌, ◌↔◌, ℕ, zero, suc, ◌-◌, ◌<◌, ◌≤◌, ◌<ℤ◌, true, ◌&&◌, ◌||◌, not, ◌==◌, map, length, ℤ, pos, ◌+ℤ◌, IsTrue, IsFalse, slice_index_or, All, AllPairs}
use Rattle.rm_sets.specs.Sets.{has, IsIn}
use Rattle.rm_market.specs.Board.{Node, Board, node_at, leaf_of, count, int_sum, crosses, IsFalling}
use Rattle.rm_valuation_laws.specs.Scores.{place}

-- any two nodes are nested or apart, no steps rise, and the tie order has each contract
pub record IsConcaveBoard (b : Board) : Type 0 where
  pub laminar : AllPairs (λ m n. IsFalse (crosses m.leaves n.leaves)) b.nodes
  pub concave : All (λ n. IsFalling n.steps) b.nodes
  pub ties_all : (x : ℕ) → IsIn x b.ties ↔ (x < length b.leaves)

-- ---- changes of one contract

abbrev pub in_node : Board → Node → ℕ → Bool
in_node b n x = has (leaf_of b x) n.leaves

-- the number where the test passes, else 0
abbrev pub on : Bool → ℤ → ℤ
on true z = z
on false z = pos 0

-- the step that the next contract at the node takes, and the one that the last one took
abbrev pub next_step : Board → List ℕ → Node → ℤ
next_step b S n = slice_index_or n.steps (count b n.leaves S) (pos 0)

abbrev pub last_step : Board → List ℕ → Node → ℤ
last_step b S n = slice_index_or n.steps (count b n.leaves S - 1) (pos 0)

-- the change of worth by adding x to S, and what S loses without z
abbrev pub gain : Board → List ℕ → ℕ → ℤ
gain b S x = int_sum (map (λ n. on (in_node b n x) (next_step b S n)) b.nodes)

abbrev pub loss : Board → List ℕ → ℕ → ℤ
loss b S z = int_sum (map (λ n. on (in_node b n z) (last_step b S n)) b.nodes)

-- where x replaces z in H: what the nodes of x without z gain, and what those of z without x lose
abbrev pub swap_gain : Board → List ℕ → ℕ → ℕ → ℤ
swap_gain b H x z = int_sum (map (λ n. on (in_node b n x && not (in_node b n z)) (next_step b H n)) b.nodes)

abbrev pub swap_loss : Board → List ℕ → ℕ → ℕ → ℤ
swap_loss b H x z = int_sum (map (λ n. on (in_node b n z && not (in_node b n x)) (last_step b H n)) b.nodes)

abbrev pub test_at : Board → ℕ → ℕ → Bool
test_at b k = in_node b (node_at b k)

-- ---- chains: the different numbers of the nodes that have x

pub record IsChain (b : Board) (x : ℕ) (chain : List ℕ) : Type 0 where
  pub once : IsDistinct ◌==◌ chain
  pub nodes : (k : ℕ) → IsIn k chain → k < length b.nodes
  pub all : (k : ℕ) → k < length b.nodes → has k chain ≡ test_at b k x

-- ---- removals at a node

abbrev pub sum_upto : ℕ → (ℕ → ℤ) → ℤ
sum_upto zero g = pos 0
sum_upto (suc m) g = sum_upto m g +ℤ g m

-- what the nodes of z at or below the node a lose without z; `under k a` says that node k is a, or lies below it in the tree
abbrev pub loss_upto : Board → (ℕ → ℕ → Bool) → List ℕ → ℕ → ℕ → ℤ
loss_upto b under H a z = sum_upto (length b.nodes) (λ k. on (test_at b k z && under k a) (last_step b H (node_at b k)))

-- to remove z costs no more there than to remove y, and at the same cost z is not before y in tie order
pub data IsCheaper (b : Board) (under : ℕ → ℕ → Bool) (H : List ℕ) (a z c y : ℕ) : Type 0 where
  less : loss_upto b under H a z <ℤ loss_upto b under H c y → IsCheaper b under H a z c y
  tied : loss_upto b under H a z ≡ loss_upto b under H c y → place b.ties y ≤ place b.ties z → IsCheaper b under H a z c y

-- z is the held contract whose removal costs least at the node a, of equal cost the last in tie order
pub record IsCheapest (b : Board) (under : ℕ → ℕ → Bool) (H : List ℕ) (a z : ℕ) : Type 0 where
  pub held : IsIn z H
  pub inside : IsTrue (test_at b a z)
  pub cheapest : (y : ℕ) → IsIn y H → IsTrue (test_at b a y) → IsCheaper b under H a z a y

-- seen from z, the node a is just above the node d
pub record IsJustAbove (b : Board) (under : ℕ → ℕ → Bool) (a d z : ℕ) : Type 0 where
  pub inside : IsTrue (test_at b d z)
  pub above : IsTrue (test_at b a z)
  pub not_under : IsFalse (under a d)
  pub just : (k : ℕ) → k < length b.nodes → IsTrue (test_at b k z) → under k a ≡ (under k d || (k == a))
