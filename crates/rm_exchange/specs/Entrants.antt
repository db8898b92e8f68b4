-- Of private calls: what competes at the nodes of a board, the nodes just inside each. Of each, what is lost without one of its held
-- contracts.
use Rattle.std.specs.Prelude.{◌≡◌, ◌⊎◌, ℕ, ◌+◌, ◌*◌, ◌<◌, ◌≤◌, Bool, List, [], ◌∷◌, length, ℤ, pos, ◌-ℤ◌, ◌≤ℤ◌, ◌<ℤ◌, Option, Some, None, IsTrue, IsFalse}
use Rattle.rm_sets.specs.Sets.{IsIn, all_below}
use Rattle.rm_market.specs.Board.{Board, contract_count, leaf_of, sets_of}
use Rattle.rm_market.specs.Tree.{set_of, is_inside}
use Rattle.rm_laminar.specs.Chains.{IsLaminar}
use Rattle.rm_board.specs.TieKeys.{tie_key}
use Rattle.rm_valuation_laws.specs.Changes.{IsConcaveBoard, test_at, loss_upto}
use Rattle.rm_valuation_laws.specs.Order.{is_under}
use Rattle.rm_exchange.specs.declared.removal.Removal.{Removal}

-- a concave board whose first nodes are the hospitals, each alone, and each contract's leaf is one of them; of two contracts with one leaf
-- the lower number has the smaller tie key
pub record HasHospitals (b : Board) : Type 0 where
  pub concave : IsConcaveBoard b
  pub laminar : IsLaminar (sets_of b)
  pub leaves : length b.leaves ≡ contract_count b
  pub nodes : length b.ranks ≤ length b.nodes
  pub own : (h : ℕ) → h < length b.ranks → set_of (sets_of b) h ≡ h ∷ []
  pub leaf : (x : ℕ) → x < contract_count b → leaf_of b x < length b.ranks
  pub agrees : (x y : ℕ) → x < y → y < contract_count b → leaf_of b x ≡ leaf_of b y → tie_key b x < tie_key b y

-- what is lost without z at its nodes inside node a, and at those and node a itself
abbrev pub inner_cost : Board → List ℕ → ℕ → ℕ → ℤ
inner_cost b H a z = loss_upto b (is_inside (sets_of b)) H a z

abbrev pub whole_cost : Board → List ℕ → ℕ → ℕ → ℤ
whole_cost b H a z = loss_upto b (is_under b) H a z

-- how many nodes lie inside node a
unfoldable pub inner_size : Board → ℕ → ℕ
inner_size b a = length (all_below (length b.nodes) (λ k. is_inside (sets_of b) k a))

-- ---- the cheapest of those held contracts that pass the test

-- of the costs and the tie keys of two contracts: the first one's removal loses less, or as much, and it isn't first in tie order
abbrev pub ComesFirstOf : ℤ → ℕ → ℤ → ℕ → Type 0
ComesFirstOf lost tie other_lost other_tie = (lost <ℤ other_lost) ⊎ ((lost ≡ other_lost) × (other_tie ≤ tie))

pub record IsCheapestHeld (key : ℕ → ℕ) (H : List ℕ) (test : ℕ → Bool) (lost : ℕ → ℤ) (size : ℕ) (r : Removal) : Type 0 where
  pub held : IsIn r.contract H
  pub passes : IsTrue (test r.contract)
  pub tie : r.tie ≡ key r.contract
  pub loss : r.loss ≡ lost r.contract
  pub least : (y : ℕ) → IsIn y H → IsTrue (test y) → ComesFirstOf (lost r.contract) (key r.contract) (lost y) (key y)
  pub low : (pos 0 -ℤ pos (size * 1000000000)) ≤ℤ r.loss
  pub high : r.loss ≤ℤ pos (size * 1000000000)

-- the cheapest one, or that there is none
abbrev pub IsLeastOf : (ℕ → ℕ) → List ℕ → (ℕ → Bool) → (ℕ → ℤ) → ℕ → Option Removal → Type 0
IsLeastOf key H test lost size (Some r) = IsCheapestHeld key H test lost size r
IsLeastOf key H test lost size None = (y : ℕ) → IsIn y H → IsFalse (test y)

-- of those of a node, with what the node itself loses
abbrev pub IsEntry : Board → List ℕ → ℕ → Option Removal → Type 0
IsEntry b H a r = IsLeastOf (tie_key b) H (test_at b a) (whole_cost b H a) (inner_size b a + 1) r

-- of those of a node, with what is lost inside it alone
abbrev pub IsBestAt : Board → List ℕ → ℕ → Option Removal → Type 0
IsBestAt b H a r = IsLeastOf (tie_key b) H (test_at b a) (inner_cost b H a) (inner_size b a) r
