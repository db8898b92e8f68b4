-- What solving a case answers: the places that its one optimal set of contracts gives.
use Rattle.std.specs.Prelude.{◌≡◌, ℕ, ◌<◌, List, [], map, length, get_or, Option, option_map, IsTrue}
use Rattle.rm_sets.specs.Sets.{below}
use Rattle.rm_market.specs.Best.{IsBest, values_of}
use Rattle.rm_market.specs.Board.{Board, hospital_of, is_feasible, owners_of}
use Rattle.rm_market.specs.Laws.{IsListOf}
use Rattle.rm_market.specs.Market.{Best, IsPlacementOf, places_of}
use Rattle.rm_market.specs.Stable.{Wishes, at, IsOnlyOptimal}
use Rattle.rm_case.specs.Case.{CaseData, market}

-- these are the places of the case's placement, a feasible set of contracts
pub record IsSolved (c : CaseData) (hospitals : List (Option ℕ)) : Type 0 where
  pub set : List ℕ
  pub placement : IsPlacementOf (market c) set
  pub feasible : IsTrue (is_feasible (market c).board set)
  pub places : hospitals ≡ places_of (market c) set

-- ---- other lists of contracts

-- wishes over the case's contracts: per doctor these listed ones, best first
abbrev pub wishes_with : CaseData → List (List ℕ) → Wishes
wishes_with c listed = record { owners = owners_of (market c).board; listed = listed }

-- a list for each doctor, of distinct contracts of his own
pub record AreListed (c : CaseData) (listed : List (List ℕ)) : Type 0 where
  pub doctors : length listed ≡ length c.roster.doctors
  pub lists : (d : ℕ) → d < length listed → IsListOf (wishes_with c listed) d (get_or listed d [])

-- per doctor, the hospital of his contract in S, or none
abbrev pub places_on : Board → Wishes → List ℕ → List (Option ℕ)
places_on b w S = map (λ d. option_map (hospital_of b) (at w d S)) (below (length w.listed))

-- these are the places of the one optimal set of a board's contracts for these wishes
abbrev pub ArePlacesOf : Board → Wishes → List (Option ℕ) → Type 0
ArePlacesOf b w places = (S : List ℕ) × IsOnlyOptimal (IsBest (values_of b)) w S × (places ≡ places_on b w S)

-- these are the places of the one optimal set for these listed contracts
abbrev pub IsSolvedWith : CaseData → List (List ℕ) → List (Option ℕ) → Type 0
IsSolvedWith c listed places =
    let w = wishes_with c listed in (S : List ℕ) × IsOnlyOptimal (Best (market c)) w S × (places ≡ places_on (market c).board w S)
