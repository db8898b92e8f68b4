-- Boards whose leaves are units: a unit stands for a hospital and a class of doctors, or for a hospital and the doctors of several classes.
use Rattle.std.specs.Prelude.{◌≡◌, ◌≢◌, ◌⊎◌, ℕ, ◌-◌, ◌<◌, ◌≤◌, ◌==◌, List, [], ◌∷◌, ◌++◌, map, length, replicate, sum_by, pos, slice_index, All, AllPairs}
use Rattle.rm_sets.specs.Sets.{IsIn, all_below, below}
use Rattle.rm_market.specs.Board.{Board, Node, IsBoard, IsTieOrder, pairs_of, hospital_of_number}
use Rattle.rm_board_laws.specs.HospitalBoards.{AreListsBelow}
use Rattle.rm_reserve_laws.specs.Reserved.{Quota, Plan, IsPlan, capacity_at, quotas_at}
use Rattle.rm_reserve_laws.specs.Compiled.{IsCompiled}

-- the hospital of each unit, and the hospitals that have a node beside those of their units
pub record Units : Type 0 where
  pub homes : List ℕ
  pub split : List ℕ

abbrev pub home_of : Units → ℕ → ℕ
home_of u l = slice_index u.homes l

-- a unit has a node with the capacity of its hospital
abbrev pub unit_node : Units → Plan → ℕ → Node
unit_node u p l = record { leaves = l ∷ []; steps = replicate (capacity_at p (home_of u l)) (pos 0) }

-- a quota has a node of its unit, whose reserved seats are worth one more
abbrev pub quota_node : Plan → Quota → Node
quota_node p q = record { leaves = q.leaf ∷ []; steps = replicate q.seats (pos 1) ++ replicate (capacity_at p q.hospital - q.seats) (pos 0) }

-- and a split hospital has a node of all its units
abbrev pub hospital_node : Units → Plan → ℕ → Node
hospital_node u p h = record { leaves = all_below (length u.homes) (λ l. home_of u l == h); steps = replicate (capacity_at p h) (pos 0) }

abbrev pub plan_nodes : Units → Plan → List Node
plan_nodes u p = map (unit_node u p) (below (length u.homes)) ++ (map (quota_node p) p.quotas ++ map (hospital_node u p) u.split)

abbrev pub plan_board : List (List ℕ) → List ℕ → Units → Plan → List ℕ → Board
plan_board ranks leaves u p ties = record { ranks = ranks; leaves = leaves; nodes = plan_nodes u p; ties = ties }

-- each contract counts at a unit of its hospital, and a hospital that isn't split has one unit
pub record AreUnits (ranks : List (List ℕ)) (leaves : List ℕ) (u : Units) : Type 0 where
  pub long : length leaves ≡ length (pairs_of ranks)
  pub known : (x : ℕ) → x < length (pairs_of ranks) → slice_index leaves x < length u.homes
  pub home : (x : ℕ) → x < length (pairs_of ranks) → home_of u (slice_index leaves x) ≡ hospital_of_number ranks x
  pub one : (h : ℕ) → h < length ranks → IsIn h u.split
      ⊎ ((l : ℕ) × (l < length u.homes) × (home_of u l ≡ h) × ((k : ℕ) → k < length u.homes → home_of u k ≡ h → k ≡ l))

-- no unit has two quotas, a quota's unit is of its hospital, and no hospital reserves more seats than it has
pub record AreQuotasOfUnits (u : Units) (p : Plan) : Type 0 where
  pub apart : AllPairs (λ q r. q.leaf ≢ r.leaf) p.quotas
  pub own : All (λ q. home_of u q.leaf ≡ q.hospital) p.quotas
  pub fits : (h : ℕ) → sum_by (λ q. q.seats) (quotas_at p h) ≤ capacity_at p h

-- these nodes, with rank lists of known doctors and a tie order, make a board, and it is the board of the plan
pub record IsBoardOfPlan (doctors : ℕ) (b : Board) (p : Plan) : Type 0 where
  pub board : IsBoard doctors b
  pub plan : IsPlan b p
  pub compiled : IsCompiled b p

abbrev pub UnitsMakeBoards : Type 0
UnitsMakeBoards =
    (doctors : ℕ) (ranks : List (List ℕ)) (leaves : List ℕ) (u : Units) (p : Plan) (ties : List ℕ)
    → AreListsBelow doctors ranks → AreUnits ranks leaves u → AreQuotasOfUnits u p → IsTieOrder ranks ties
    → IsBoardOfPlan doctors (plan_board ranks leaves u p ties) p
