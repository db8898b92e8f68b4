-- The steps of a board's nodes, and the turns of hospitals in the orders of their prefectures.
use Rattle.std.specs.Prelude.{ℕ, ◌+◌, ◌-◌, ◌*◌, ◌<◌, ◌≤◌, ◌==◌, List, [], ◌∷◌, ◌++◌, map, get_or, length, ℤ, pos, ◌-ℤ◌, int_lt, position, if◌then◌else◌}
use Rattle.std.specs.List.{IsDistinct, range_with_len}
use Rattle.std.specs.Option.{option_map_or}
use Rattle.rm_market.specs.Tree.{below}
use Rattle.rm_market.specs.Flexible.{Region, full_worth, seat_worth}
use Rattle.rm_market.specs.declared.Run.{Run}
use Rattle.rm_roster.specs.Roster.{RosterData}
use Rattle.rm_policy.specs.Policy.{PolicyData}
use Rattle.rm_sets.specs.Sets.{IsIn}
use Rattle.rm_case.specs.Compiled.{compiled_steps, order_of_prefecture, seat_of}
use Rattle.rm_case.specs.declared.turns.Turn.{Turn}

-- the hospitals' nodes come first, and then the groups'
abbrev pub node_steps : RosterData → PolicyData → List (List ℤ)
node_steps r p = map (compiled_steps r p) (below (length r.hospitals)) ++ p.groups.steps

-- the hospitals of an order as a region; the worths of its seats don't tell its cap
abbrev pub seats_region : RosterData → List ℕ → Region
seats_region r order = record { cap = 0; seats = map (seat_of r) order }

-- the place of a number in a list, counted from 1
abbrev pub place_from_one : List ℕ → ℕ → ℕ
place_from_one order h = option_map_or (λ k. k + 1) (position (λ x. x == h) order) 0

-- the turn of a hospital in an order, and in that of its prefecture
abbrev pub turn_in : RosterData → List ℕ → ℕ → Turn
turn_in r order h = record { full = full_worth (seats_region r order); hospitals = length order; place = place_from_one order h }

abbrev pub hospital_turn : RosterData → PolicyData → ℕ → Turn
hospital_turn r p h = turn_in r (order_of_prefecture r p (get_or r.prefecture_of h 0)) h

-- the worths of the seats of a hospital with this turn
abbrev pub turn_steps : Turn → ℕ → ℕ → List ℤ
turn_steps t target capacity = map (seat_worth t.full t.hospitals t.place target) (range_with_len 1 capacity)

-- the seats up to the target as a run, and those that are taken in turns
abbrev pub at_once : Turn → ℕ → Run
at_once t target = record { value = pos t.full; fall = pos 0; count = pos target }

abbrev pub in_turns : Turn → ℕ → ℕ → Run
in_turns t target capacity = record { value = pos t.full -ℤ pos t.place; fall = pos t.hospitals; count = pos (capacity - target) }

-- a run, unless it has no step
abbrev pub with_steps : Run → List Run
with_steps run = if int_lt (pos 0) run.count then run ∷ [] else []

-- a turn for a hospital of this target and capacity: the full worth is more than all its turns take off
pub record IsTurn (t : Turn) (target capacity : ℕ) : Type 0 where
  pub seats : target ≤ capacity
  pub few : capacity ≤ 10000
  pub place : 1 ≤ t.place
  pub within : t.place ≤ t.hospitals
  pub worth : capacity * t.hospitals < t.full
  pub bounded : t.full ≤ 1000000000

-- an order of some hospitals of the roster, each once
pub record AreSome (r : RosterData) (order : List ℕ) : Type 0 where
  pub once : IsDistinct ◌==◌ order
  pub known : (h : ℕ) → IsIn h order → h < length r.hospitals
