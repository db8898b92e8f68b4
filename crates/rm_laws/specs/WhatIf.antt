-- What another list would give a doctor: two placements side by side.
use Rattle.std.specs.Prelude.{◌≡◌, ℕ, List, Option, IsFalse}
use Rattle.rm_market.specs.Market.{Market, IsPlacementOf, places_of, replaced, wishes_of}
use Rattle.rm_market.specs.Stable.{at, prefers_place}
use Rattle.rm_case.specs.Case.{CaseData, market}

-- by his list in the market doctor d doesn't prefer the hospital that he has in T to the one that he has in S
abbrev pub GainsNothing : Market → ℕ → List ℕ → List ℕ → Type 0
GainsNothing m d S T = IsFalse (prefers_place (wishes_of m) d (at (wishes_of m) d T) (at (wishes_of m) d S))

-- S is the placement of the market, T that with only the list of doctor d replaced, and he gains nothing by it
pub record AreBothPlacements (m : Market) (d : ℕ) (list S T : List ℕ) : Type 0 where
  pub declared : IsPlacementOf m S
  pub other : IsPlacementOf (replaced m d list) T
  pub no_gain : GainsNothing m d S T

-- these are the places of both placements of a case
pub record AreBothPlaces (c : CaseData) (d : ℕ) (list : List ℕ) (declared others : List (Option ℕ)) : Type 0 where
  pub first : List ℕ
  pub second : List ℕ
  pub placements : AreBothPlacements (market c) d list first second
  pub first_places : declared ≡ places_of (market c) first
  pub second_places : others ≡ places_of (replaced (market c) d list) second
