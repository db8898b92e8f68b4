-- Of private calls, but for `held_in`, by which the fast holder says what it holds: what it keeps.
use Rattle.std.specs.Prelude.{◌≡◌, ℕ, ◌+◌, ◌<◌, ◌≤◌, Bool, true, false, not, List, [], length, get_or, set, ℤ, pos, ◌+ℤ◌, ◌-ℤ◌, ◌≤ℤ◌, Option, Some, None, IsTrue, slice_get}
use Rattle.rm_sets.specs.Sets.{IsIn, all_below}
use Rattle.rm_market.specs.Board.{Board, contract_count, leaf_of, node_at, sets_of}
use Rattle.rm_market.specs.Tree.{parent}
use Rattle.rm_market.specs.Best.{best_of, values_of}
use Rattle.rm_valuation_laws.specs.Changes.{test_at}
use Rattle.rm_valuation.specs.Counts.{AreCounts}
use Rattle.rm_exchange.specs.declared.removal.Removal.{Removal}
use Rattle.rm_exchange.specs.declared.holding.Holding.{Holding}
use Rattle.rm_exchange.specs.Entrants.{HasHospitals, IsEntry}
use Rattle.rm_exchange.specs.Leaves.{AreLeaves}

-- the marked ones of n contracts
abbrev pub held_of : ℕ → List Bool → List ℕ
held_of n marks = all_below n (λ x. get_or marks x false)

abbrev pub held_in : Board → Holding → List ℕ
held_in b h = held_of (contract_count b) h.marks.items

-- the places of the first j nodes: at each node those that lie just inside have its places from 0, each one its own
pub record ArePlaced (b : Board) (j : ℕ) (width : ℕ → ℕ) (places : List ℕ) : Type 0 where
  pub within : (k a : ℕ) → k < j → parent (sets_of b) k ≡ Some a → get_or places k 0 < width a
  pub once : (k l a : ℕ) → k < j → l < j → parent (sets_of b) k ≡ Some a → parent (sets_of b) l ≡ Some a → get_or places k 0 ≡ get_or places l 0 → k ≡ l
  pub filled : (a i : ℕ) → a < length b.nodes → i < width a → (k : ℕ) × (k < j) × (parent (sets_of b) k ≡ Some a) × (get_or places k 0 ≡ i)

-- so, where each node has so many places
pub record ArePlacedSo (b : Board) (j : ℕ) (widths places : List ℕ) : Type 0 where
  pub all : length places ≡ j
  pub few : (a : ℕ) → get_or widths a 0 ≤ j
  pub placed : ArePlaced b j (λ a. get_or widths a 0) places

-- one more place at the node, if there is one
abbrev pub IsEntered : Option ℕ → List ℕ → List ℕ → ℕ → Type 0
IsEntered None old new place = new ≡ old
IsEntered (Some k) old new place = (place ≡ get_or old k 0) × (new ≡ set old k (get_or old k 0 + 1))

-- the rivals at each node are the cheapest held contracts of the nodes just inside, at least of those that pass the test
abbrev pub AreEntries : Board → List ℕ → (ℕ → Bool) → List ℕ → List (List (Option Removal)) → Type 0
AreEntries b H test places rivals = (k a : ℕ) → k < length b.nodes → parent (sets_of b) k ≡ Some a → IsTrue (test k)
    → IsEntry b H k (get_or (get_or rivals a []) (get_or places k 0) None)

-- the step that the next contract takes at each node where there are so many, or none where it is full, at least at the nodes that pass
-- the test; and no step is a large number
pub record AreNexts (b : Board) (test : ℕ → Bool) (counts : List ℕ) (nexts : List (Option ℤ)) : Type 0 where
  pub all : length nexts ≡ length b.nodes
  pub each : (k : ℕ) → k < length b.nodes → IsTrue (test k) → get_or nexts k None ≡ slice_get (node_at b k).steps (get_or counts k 0)
  pub range : (k : ℕ) (step : ℤ) → get_or nexts k None ≡ Some step → ((pos 0 -ℤ pos 1000000000) ≤ℤ step) × (step ≤ℤ pos 1000000000)

-- counts, next steps, leaves and rivals are those of what is marked, the rivals at least for the nodes that pass the test
pub record IsKeptSo (b : Board) (test : ℕ → Bool) (places : List ℕ) (h : Holding) : Type 0 where
  pub hospitals : HasHospitals b
  pub small : length b.nodes < 4294967296
  pub all_marked : length h.marks.items ≡ contract_count b
  pub all_counted : length h.counts.items ≡ length b.nodes
  pub all_nodes : length h.rivals.items ≡ length b.nodes
  pub all_placed : length places ≡ length b.nodes
  pub counted : AreCounts b (held_in b h) h.counts.items
  pub nexts : AreNexts b (λ k. true) h.counts.items h.nexts.items
  pub leaves : AreLeaves b (held_in b h) h.leaves.items
  pub placed : ArePlaced b (length b.nodes) (λ a. length (get_or h.rivals.items a [])) places
  pub entries : AreEntries b (held_in b h) test places h.rivals.items

-- so for all nodes, and for all but those that have contract x
abbrev pub IsAllKept : Board → List ℕ → Holding → Type 0
IsAllKept b places h = IsKeptSo b (λ k. true) places h

abbrev pub IsKeptBut : Board → ℕ → List ℕ → Holding → Type 0
IsKeptBut b x places h = IsKeptSo b (λ k. not (test_at b k x)) places h

-- of what is held at a leaf the contract of greatest number
pub record IsLastHeld (b : Board) (H : List ℕ) (h z : ℕ) : Type 0 where
  pub held : IsIn z H
  pub leaf : leaf_of b z ≡ h
  pub greatest : (y : ℕ) → IsIn y H → leaf_of b y ≡ leaf_of b z → y ≤ z

-- the same removal with what one more node loses
abbrev pub IsFurther : Option Removal → ℤ → Option Removal → Type 0
IsFurther None step after = after ≡ None
IsFurther (Some r) step after = after ≡ Some (record { contract = r.contract; tie = r.tie; loss = r.loss +ℤ step })

-- what a holder keeps between offers: all of that, and what is held is its own best subset
pub record IsHolding (b : Board) (places : List ℕ) (h : Holding) : Type 0 where
  pub kept : IsAllKept b places h
  pub settled : best_of (values_of b) (held_in b h) ≡ held_in b h
