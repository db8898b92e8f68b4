-- What is proved of reserved seats.
use Rattle.std.specs.Prelude.{◌≡◌, ℕ, ◌<◌, ◌≤◌, ◌==◌, List, length, count_by}
use Rattle.rm_sets.specs.Sets.{IsIn, IsSet, IsSetBelow, IsWithin}
use Rattle.rm_market.specs.Board.{Board, IsBoard, contract_count, hospital_of, leaf_of}
use Rattle.rm_market.specs.Best.{IsBest, IsChoice, values_of}
use Rattle.rm_market.specs.Stable.{Wishes}
use Rattle.rm_market.specs.Market.{Market, IsMarket, wishes_of}
use Rattle.rm_market.specs.Laws.{AreWishes, IsPartChoice}
use Rattle.rm_matching_laws.specs.Results.{RunsClose}
use Rattle.rm_market_laws.specs.Results.{RunsWellIn, HasPlacement}
use Rattle.rm_reserve_laws.specs.Reserved.{Quota, Plan, IsPlan, capacity_at, picked_at, reserved}
use Rattle.rm_reserve_laws.specs.Compiled.{IsCompiled, quota_at}

-- ---- the pick by counts

-- how many contracts of S are at hospital h, and how many have the quota's leaf
abbrev pub held_at : Board → ℕ → List ℕ → ℕ
held_at b h S = count_by (λ x. hospital_of b x == h) S

abbrev pub held_of : Board → Quota → List ℕ → ℕ
held_of b q S = count_by (λ x. leaf_of b x == q.leaf) S

-- z has the quota's leaf, of which S has no more than the reserved seats, and x hasn't
pub record HoldsReserved (b : Board) (q : Quota) (S : List ℕ) (x z : ℕ) : Type 0 where
  pub leaf : leaf_of b z ≡ q.leaf
  pub few : held_of b q S ≤ q.seats
  pub other : ¬ (leaf_of b x ≡ q.leaf)

-- S is what the hospitals pick of X, told by counts: no hospital is over its capacity; and where x is left, its hospital is full, the quota of
-- its leaf has all its seats, and each contract of the hospital that is held and ranked below x holds a reserved seat
pub record IsPicked (b : Board) (p : Plan) (X S : List ℕ) : Type 0 where
  pub set : IsSet S
  pub within : IsWithin S X
  pub in_capacities : (h : ℕ) → held_at b h S ≤ capacity_at p h
  pub full : (x : ℕ) → IsIn x X → ¬ IsIn x S → held_at b (hospital_of b x) S ≡ capacity_at p (hospital_of b x)
  pub reached : (i x : ℕ) → i < length p.quotas → IsIn x X → ¬ IsIn x S → leaf_of b x ≡ (quota_at p i).leaf → (quota_at p i).seats ≤ held_of b (quota_at p i) S
  pub reserves : (x z : ℕ) → IsIn x X → ¬ IsIn x S → IsIn z S → hospital_of b z ≡ hospital_of b x → x < z
      → (i : ℕ) × (i < length p.quotas) × HoldsReserved b (quota_at p i) S x z

-- the reserved pick is so, and no other set
abbrev pub ReservedIsPicked : Board → Plan → Type 0
ReservedIsPicked b p = (X : List ℕ) → IsSetBelow (contract_count b) X → IsPicked b p X (reserved b p X)

abbrev pub PickedIsReserved : Board → Plan → Type 0
PickedIsReserved b p = (X S : List ℕ) → IsSetBelow (contract_count b) X → IsPicked b p X S → S ≡ reserved b p X

-- ---- laws

-- what all hospitals pick is a lawful choice
abbrev pub ReservedIsLawful : Board → Plan → Type 0
ReservedIsLawful b p = IsChoice (contract_count b) (reserved b p)

-- and so is what one hospital picks of its contracts, among them
abbrev pub PicksAreLawful : Board → Plan → Type 0
PicksAreLawful b p = (h : ℕ) → IsPartChoice (contract_count b) (hospital_of b) h (picked_at b p h)

-- it is the best subset
abbrev pub ReservedIsBest : Board → Plan → Type 0
ReservedIsBest b p = (X : List ℕ) → IsSetBelow (contract_count b) X → IsBest (values_of b) X (reserved b p X)

-- in a market: each run by the reserved pick has the laws, goes on to a closed one, and some closed one ends in the placement
abbrev pub ReservedRunsWellIn : Market → Plan → Type 0
ReservedRunsWellIn m p = RunsWellIn m (reserved m.board p)

abbrev pub ReservedRunsCloseIn : Market → Plan → Type 0
ReservedRunsCloseIn m p = RunsClose (reserved m.board p) (wishes_of m)

abbrev pub ReservedHasPlacement : Market → Plan → Type 0
ReservedHasPlacement m p = HasPlacement m (reserved m.board p)

-- ---- where the theorems hold

-- on any board, whatever its nodes, steps and tie order
abbrev pub OfPlans : (Board → Plan → Type 0) → Type 0
OfPlans Holds = (b : Board) (p : Plan) → IsPlan b p → Holds b p

-- of the reserved pick on any board, and all wishes
abbrev pub OfReserved : ((List ℕ → List ℕ) → Wishes → Type 0) → Type 0
OfReserved Holds = (b : Board) (p : Plan) (w : Wishes) → IsPlan b p → AreWishes (contract_count b) w → Holds (reserved b p) w

-- on the board of the plan
abbrev pub OnBoardsOfPlans : (Board → Plan → Type 0) → Type 0
OnBoardsOfPlans Holds = (doctors : ℕ) (b : Board) (p : Plan) → IsBoard doctors b → IsPlan b p → IsCompiled b p → Holds b p

-- in a market on the board of the plan
abbrev pub InMarketsOfPlans : (Market → Plan → Type 0) → Type 0
InMarketsOfPlans Holds = (m : Market) (p : Plan) → IsMarket m → IsPlan m.board p → IsCompiled m.board p → Holds m p
