-- Stability in the sense of Kamada and Kojima 2015, in the words of regions. It knows no turns: a doctor who asks at a hospital with a free seat
-- may be refused where the region is full, unless he comes from a hospital of the region that is then at least as far over its target as the new one.
use Rattle.std.specs.Prelude.{◌≡◌, ℕ, ◌<◌, ◌≤◌, List, length, ℤ, pos, ◌-ℤ◌, ◌<ℤ◌}
use Rattle.rm_sets.specs.Sets.{IsIn}
use Rattle.rm_market.specs.Board.{Board, contract_count, doctor_of, hospital_of}
use Rattle.rm_market.specs.Best.{swapped}
use Rattle.rm_market.specs.Stable.{IsPlacement}
use Rattle.rm_market.specs.Market.{Market, wishes_of}
use Rattle.rm_market.specs.Flexible.{Region, Seat, held_at, region_count}
use Rattle.rm_plain_laws.specs.Stability.{IsBlockingPair}
use Rattle.rm_flexible_laws.specs.Region.{seat_at, region_at, IsPlace}

-- S keeps the cap of each region and the capacity of each hospital
pub record KeepsCaps (b : Board) (regions : List Region) (S : List ℕ) : Type 0 where
  pub in_caps : (i : ℕ) → i < length regions → region_count b (region_at regions i) S ≤ (region_at regions i).cap
  pub in_capacities : (i j : ℕ) → i < length regions → j < length (region_at regions i).seats
      → held_at b S (seat_at (region_at regions i) j) ≤ (seat_at (region_at regions i) j).capacity

-- how far a hospital is over its target: below 0 where it holds fewer
abbrev pub over_target : Board → List ℕ → Seat → ℤ
over_target b S s = pos (held_at b S s) -ℤ pos s.target

-- what excuses a blocking pair of contract x at the seats s of region r: the region is full; the hospital ranks all whom it holds above the doctor; and
-- if he has a contract y at a hospital of the region, then after his move the new hospital is further over its target than the one that he left
pub record IsExcused (m : Market) (S : List ℕ) (r : Region) (s : Seat) (x : ℕ) : Type 0 where
  pub full : region_count m.board r S ≡ r.cap
  pub above : (y : ℕ) → IsIn y S → hospital_of m.board y ≡ hospital_of m.board x → y < x
  pub further : (y k : ℕ) → IsIn y S → doctor_of m.board y ≡ doctor_of m.board x
      → k < length r.seats → (seat_at r k).hospital ≡ hospital_of m.board y
      → over_target m.board (swapped S x y) (seat_at r k) <ℤ over_target m.board (swapped S x y) s

-- S is stable as Kamada and Kojima say, where each contract's hospital stands in exactly one of these regions: it is a placement within caps and
-- capacities, and each of its blocking pairs is excused
pub record IsKKStable (m : Market) (regions : List Region) (S : List ℕ) : Type 0 where
  pub placement : IsPlacement (wishes_of m) S
  pub caps : KeepsCaps m.board regions S
  pub excused : (x i j : ℕ) → x < contract_count m.board → IsPlace regions (hospital_of m.board x) i j
      → IsBlockingPair m S (seat_at (region_at regions i) j).capacity x → IsExcused m S (region_at regions i) (seat_at (region_at regions i) j) x
