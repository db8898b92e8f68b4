-- What is proved of stability in the sense of Kamada and Kojima 2015.
use Rattle.std.specs.Prelude.{◌≡◌, ℕ, ◌<◌, List, length, IsTrue, IsFalse}
use Rattle.rm_market.specs.Board.{contract_count, hospital_of}
use Rattle.rm_market.specs.Stable.{IsPlacement, IsStable, Takes, at, prefers_place}
use Rattle.rm_market.specs.Machine.{IsClosed}
use Rattle.rm_market.specs.Laws.{after}
use Rattle.rm_market.specs.Market.{Market, IsMarket, IsStableIn, IsPlacementOf, wishes_of}
use Rattle.rm_market.specs.Flexible.{Region, flexible, has_count_form}
use Rattle.rm_flexible_laws.specs.Region.{IsRegions}
use Rattle.rm_flexible_laws.specs.Compiled.{IsCompiled}
use Rattle.rm_kamada_kojima_laws.specs.Stability.{KeepsCaps, IsKKStable}

-- a placement of count form within the caps is stable as Kamada and Kojima say
abbrev pub CountFormIsKKStable : Market → List Region → Type 0
CountFormIsKKStable m regions =
    (S : List ℕ) → IsPlacement (wishes_of m) S → KeepsCaps m.board regions S → IsTrue (has_count_form m.board regions (wishes_of m) S)
    → IsKKStable m regions S

-- so is each set that is stable for what the regions keep
abbrev pub StableForRegionsIsKKStable : Market → List Region → Type 0
StableForRegionsIsKKStable m regions = (S : List ℕ) → IsStable (Takes (flexible m.board regions)) (wishes_of m) S → IsKKStable m regions S

-- and each set in which the flexible procedure ends
abbrev pub ProcedureEndsKKStable : Market → List Region → Type 0
ProcedureEndsKKStable m regions =
    (ds : List ℕ) → IsClosed (flexible m.board regions) (wishes_of m) (after (flexible m.board regions) (wishes_of m) ds)
    → IsKKStable m regions (after (flexible m.board regions) (wishes_of m) ds).held

-- on the board of the regions, so is each stable set
abbrev pub StableIsKKStable : Market → List Region → Type 0
StableIsKKStable m regions = (S : List ℕ) → IsStableIn m S → IsKKStable m regions S

-- and the market's placement
abbrev pub PlacementIsKKStable : Market → List Region → Type 0
PlacementIsKKStable m regions = (S : List ℕ) → IsPlacementOf m S → IsKKStable m regions S

-- ---- where the theorems hold

-- in a market with lawful regions, whatever its nodes
abbrev pub InMarketsWithRegions : (Market → List Region → Type 0) → Type 0
InMarketsWithRegions Holds =
    (m : Market) (regions : List Region) → IsMarket m → IsRegions (contract_count m.board) (hospital_of m.board) regions → Holds m regions

-- ---- the converse fails

-- a market on the board of lawful regions
pub record IsMarketOf (m : Market) (regions : List Region) : Type 0 where
  pub market : IsMarket m
  pub lawful : IsRegions (contract_count m.board) (hospital_of m.board) regions
  pub compiled : IsCompiled m.board regions

-- in this market S is stable as Kamada and Kojima say, and isn't stable
pub record IsKKStableOnly (m : Market) (regions : List Region) (S : List ℕ) : Type 0 where
  pub regional : IsMarketOf m regions
  pub kk_stable : IsKKStable m regions S
  pub unstable : ¬ IsStableIn m S

-- no doctor prefers his place in S to his place in T, and some doctor prefers his place in T
pub record IsBetterForDoctors (m : Market) (T S : List ℕ) : Type 0 where
  pub nobody_worse : (d : ℕ) → d < length m.lists → IsFalse (prefers_place (wishes_of m) d (at (wishes_of m) d S) (at (wishes_of m) d T))
  pub doctor : ℕ
  pub gains : IsTrue (prefers_place (wishes_of m) doctor (at (wishes_of m) doctor T) (at (wishes_of m) doctor S))

-- there is a market of one doctor with such a set
abbrev pub OneDoctorKKStableOnly : Type 0
OneDoctorKKStableOnly = (m : Market) × (regions : List Region) × (S : List ℕ) × (length m.lists ≡ 1) × IsKKStableOnly m regions S

-- there is a market with such a set that is better for doctors than the placement
abbrev pub KKStableBeatsPlacement : Type 0
KKStableBeatsPlacement =
    (m : Market) × (regions : List Region) × (S : List ℕ) × (T : List ℕ) × IsPlacementOf m S × IsKKStableOnly m regions T × IsBetterForDoctors m T S

-- some doctor prefers another set that is stable as Kamada and Kojima say
abbrev pub SomeonePrefersAnother : Market → List Region → List ℕ → Type 0
SomeonePrefersAnother m regions U =
    (T : List ℕ) × (d : ℕ) × IsKKStable m regions T × IsTrue (prefers_place (wishes_of m) d (at (wishes_of m) d T) (at (wishes_of m) d U))

-- there is a market in which this is so of each such set: none of them is best for all doctors
abbrev pub KKStableHasNoBest : Type 0
KKStableHasNoBest =
    (m : Market) × (regions : List Region) × IsMarketOf m regions
    × ((U : List ℕ) → IsKKStable m regions U → SomeonePrefersAnother m regions U)
