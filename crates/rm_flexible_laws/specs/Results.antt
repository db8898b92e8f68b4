-- What is proved of regions, of their pick and of their board.
use Rattle.std.specs.Prelude.{◌≡◌, ◌↔◌, ℕ, ◌+◌, ◌<◌, ◌≤◌, List, length, All, IsTrue}
use Rattle.rm_sets.specs.Sets.{IsIn, IsSet, IsSetBelow, IsWithin}
use Rattle.rm_market.specs.Board.{Board, IsBoard, IsFalling, contract_count, hospital_of, is_feasible}
use Rattle.rm_market.specs.Best.{IsBest, IsChoice, values_of}
use Rattle.rm_market.specs.Stable.{Wishes, IsPlacement, IsStable, IsOptimal, IsOnlyOptimal, Takes}
use Rattle.rm_market.specs.Market.{Market, IsMarket, IsStableIn, wishes_of}
use Rattle.rm_market.specs.Flexible.{Region, Seat, kept, in_region, flexible, region_count, held_at, is_passed_over, seat_steps, has_count_form}
use Rattle.rm_market.specs.Machine.{IsClosed}
use Rattle.rm_market.specs.Laws.{AreWishes, after}
use Rattle.rm_matching_laws.specs.Results.{RunsClose}
use Rattle.rm_market_laws.specs.Results.{RunsWellIn, HasPlacement}
use Rattle.rm_flexible_laws.specs.Region.{seat_at, region_at, IsRegion, IsRegions, IsPlace}
use Rattle.rm_flexible_laws.specs.Compiled.{IsCompiled}

-- S is what the regions keep of X, told as in the count form: it is within the caps and capacities, and each other contract of X is passed over
pub record IsPicked (b : Board) (regions : List Region) (X S : List ℕ) : Type 0 where
  pub set : IsSet S
  pub within : IsWithin S X
  pub in_caps : (i : ℕ) → i < length regions → region_count b (region_at regions i) S ≤ (region_at regions i).cap
  pub in_capacities : (i j : ℕ) → i < length regions → j < length (region_at regions i).seats
      → held_at b S (seat_at (region_at regions i) j) ≤ (seat_at (region_at regions i) j).capacity
  pub passed : (x : ℕ) → IsIn x X → ¬ IsIn x S → IsTrue (is_passed_over b regions S x)

-- what one region keeps of its contracts
abbrev pub KeptIsPicked : Board → List Region → Type 0
KeptIsPicked b regions =
    (i : ℕ) (X : List ℕ) → i < length regions → IsSetBelow (contract_count b) X
    → IsPicked b regions (in_region b (region_at regions i) X) (kept b (region_at regions i) (in_region b (region_at regions i) X))

-- and what all regions keep
abbrev pub FlexibleIsPicked : Board → List Region → Type 0
FlexibleIsPicked b regions = (X : List ℕ) → IsSetBelow (contract_count b) X → IsPicked b regions X (flexible b regions X)

-- no other set is so
abbrev pub PickedIsOne : Board → List Region → Type 0
PickedIsOne b regions =
    (X S T : List ℕ) → IsSetBelow (contract_count b) X → IsPicked b regions X S → IsPicked b regions X T → S ≡ T

-- on the board of the regions, what one region keeps of its contracts is their best subset
abbrev pub KeptIsBest : Board → List Region → Type 0
KeptIsBest b regions =
    (i : ℕ) (X : List ℕ) → i < length regions → IsSetBelow (contract_count b) X
    → IsBest (values_of b) (in_region b (region_at regions i) X) (kept b (region_at regions i) (in_region b (region_at regions i) X))

-- and what all regions keep is the best subset of all
abbrev pub FlexibleIsBest : Board → List Region → Type 0
FlexibleIsBest b regions = (X : List ℕ) → IsSetBelow (contract_count b) X → IsBest (values_of b) X (flexible b regions X)

-- the best subset is what the counts say
abbrev pub BestIsPicked : Board → List Region → Type 0
BestIsPicked b regions = (X S : List ℕ) → IsSetBelow (contract_count b) X → IsBest (values_of b) X S ↔ IsPicked b regions X S

-- a feasible placement is stable exactly where it has the count form
abbrev pub StableIsCountForm : Board → List Region → Type 0
StableIsCountForm b regions =
    (w : Wishes) (S : List ℕ) → length w.owners ≡ contract_count b → IsPlacement w S → IsTrue (is_feasible b S)
    → IsStable (IsBest (values_of b)) w S ↔ IsTrue (has_count_form b regions w S)

-- the same in a market
abbrev pub StableInIsCountForm : Market → List Region → Type 0
StableInIsCountForm m regions =
    (S : List ℕ) → IsPlacement (wishes_of m) S → IsTrue (is_feasible m.board S) → IsStableIn m S ↔ IsTrue (has_count_form m.board regions (wishes_of m) S)

-- by what the regions keep, the same placements are optimal as by best subsets; so a closed run of the flexible procedure ends in the market's placement
abbrev pub SameOptimal : Board → List Region → Type 0
SameOptimal b regions =
    (w : Wishes) (S : List ℕ) → length w.owners ≡ contract_count b → IsOptimal (Takes (flexible b regions)) w S ↔ IsOptimal (IsBest (values_of b)) w S

-- each closed run of the flexible procedure ends in the one optimal placement
abbrev pub FlexibleRunsEnd : Board → List Region → Type 0
FlexibleRunsEnd b regions =
    (w : Wishes) → AreWishes (contract_count b) w → (ds : List ℕ) → IsClosed (flexible b regions) w (after (flexible b regions) w ds) →
    IsOnlyOptimal (IsBest (values_of b)) w (after (flexible b regions) w ds).held

-- the steps of a hospital's seats never rise
abbrev pub SeatStepsFall : Type 0
SeatStepsFall = (r : Region) (j : ℕ) (s : Seat) → IsFalling (seat_steps r (j + 1) s)

-- what regions keep is a lawful choice
abbrev pub FlexibleIsLawful : Board → List Region → Type 0
FlexibleIsLawful b regions = IsChoice (contract_count b) (flexible b regions)

-- regions in which each hospital with a rank list stands once are lawful
abbrev pub RegionsOfHospitals : Type 0
RegionsOfHospitals =
    (b : Board) (regions : List Region) → All IsRegion regions → ((h i j k l : ℕ) → IsPlace regions h i j → IsPlace regions h k l → i ≡ k) →
    ((h : ℕ) → h < length b.ranks → (i : ℕ) × (j : ℕ) × IsPlace regions h i j) → IsRegions (contract_count b) (hospital_of b) regions

-- in a market: each run of the flexible procedure has the laws, goes on to a closed one, and some closed one ends in the placement
abbrev pub FlexibleRunsWellIn : Market → List Region → Type 0
FlexibleRunsWellIn m regions = RunsWellIn m (flexible m.board regions)

abbrev pub FlexibleRunsCloseIn : Market → List Region → Type 0
FlexibleRunsCloseIn m regions = RunsClose (flexible m.board regions) (wishes_of m)

abbrev pub FlexibleHasPlacement : Market → List Region → Type 0
FlexibleHasPlacement m regions = HasPlacement m (flexible m.board regions)

-- ---- where the theorems hold

-- on any board with lawful regions
abbrev pub OfRegions : (Board → List Region → Type 0) → Type 0
OfRegions Holds = (b : Board) (regions : List Region) → IsRegions (contract_count b) (hospital_of b) regions → Holds b regions

-- of the flexible procedure on any board with lawful regions, and all wishes
abbrev pub OfFlexible : ((List ℕ → List ℕ) → Wishes → Type 0) → Type 0
OfFlexible Holds =
    (b : Board) (regions : List Region) (w : Wishes) → IsRegions (contract_count b) (hospital_of b) regions → AreWishes (contract_count b) w
    → Holds (flexible b regions) w

-- on the board of the regions
abbrev pub OnBoardsOfRegions : (Board → List Region → Type 0) → Type 0
OnBoardsOfRegions Holds =
    (doctors : ℕ) (b : Board) (regions : List Region) → IsBoard doctors b → IsRegions (contract_count b) (hospital_of b) regions → IsCompiled b regions
    → Holds b regions

-- in a market on the board of the regions
abbrev pub InMarketsOfRegions : (Market → List Region → Type 0) → Type 0
InMarketsOfRegions Holds =
    (m : Market) (regions : List Region) → IsMarket m → IsRegions (contract_count m.board) (hospital_of m.board) regions → IsCompiled m.board regions
    → Holds m regions
