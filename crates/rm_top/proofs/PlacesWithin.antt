-- Places have one entry a doctor, and each of them is a hospital.
use Rattle.std.proofs.Common.{◌≡◌, ◌<◌, ◌∙◌, ◌==◌, ℕ, List, [], ◌∷◌, length, map, All, Option, Some, None, IfSome, option_map, refl, length-set}
use Rattle.std.proofs.lemmas.List.{length-map}
use Rattle.std.proofs.lemmas.List.Elements.{All-nil, All-cons}
use Rattle.rm_sets.specs.Sets.{below}
use Rattle.rm_sets.proofs.Once.{length-below}
use Rattle.rm_market.specs.Board.{contract_count, contracts, hospital_of}
use Rattle.rm_market.specs.Stable.{at, owner}
use Rattle.rm_market.specs.Market.{Market, IsPlacementOf, places_of, replaced, wishes_of}
use Rattle.rm_matching_laws.proofs.Places.{find_some}
use Rattle.rm_board_laws.proofs.Contracts.{hospital_ranked}
use Rattle.rm_case.specs.Case.{CaseData, IsCase, market}
use Rattle.rm_report.specs.Texts.{AreHospitals, ArePlaces}
use Rattle.rm_report.proofs.ContractNames.{ranks-each}

places_long_in : (m : Market) (S : List ℕ) → length (places_of m S) ≡ length m.lists
unfolding places_of
places_long_in m S = length-map (below (length m.lists)) (λ d. option_map (hospital_of m.board) (at (wishes_of m) d S)) ∙ length-below (length m.lists)

-- the hospital of a held contract
held_within : (m : Market) (S : List ℕ) (d : ℕ) → IsPlacementOf m S → (o : Option ℕ) → at (wishes_of m) d S ≡ o
    → IfSome (option_map (hospital_of m.board) o) (λ h. h < length m.board.ranks)
held_within m S d best None e = tt
held_within m S d best (Some x) e =
    let inside = (find_some (λ y. owner (wishes_of m) y == d) S x e).0 in
    let few : x < contract_count m.board = rw (length-map {B = ℕ} (contracts m.board) (λ p. p.0)) at (best.optimal.stable.placement.set.below x inside) in
    hospital_ranked m.board x few

all_mapped : (P : Option ℕ → Type 0) (f : ℕ → Option ℕ) (xs : List ℕ) → ((x : ℕ) → P (f x)) → All P (map f xs)
all_mapped P f [] h = All-nil P
all_mapped P f (x ∷ xs) h = All-cons P (f x) (map f xs) (h x) (all_mapped P f xs h)

places_within_in : (m : Market) (S : List ℕ) → IsPlacementOf m S → AreHospitals (length m.board.ranks) (places_of m S)
unfolding places_of
places_within_in m S best =
    all_mapped (λ place. IfSome place (λ h. h < length m.board.ranks)) (λ d. option_map (hospital_of m.board) (at (wishes_of m) d S)) (below (length m.lists))
    (λ d. held_within m S d best (at (wishes_of m) d S) refl)

pub places_long : (c : CaseData) (S : List ℕ) → IsCase c → length (places_of (market c) S) ≡ length c.roster.doctors
places_long c S is = places_long_in (market c) S ∙ is.roster.list_each

pub places_within : (c : CaseData) (S : List ℕ) → IsCase c → IsPlacementOf (market c) S → AreHospitals (length c.roster.hospitals) (places_of (market c) S)
places_within c S is best = rw (← ranks-each c is) (places_within_in (market c) S best)

-- the same with the list of a doctor replaced
pub others_within : (c : CaseData) (d : ℕ) (list T : List ℕ) → IsCase c → IsPlacementOf (replaced (market c) d list) T → ArePlaces c (places_of (replaced (market c) d list) T)
others_within c d list T is best = (
  places_long_in (replaced (market c) d list) T ∙ length-set (market c).lists d list ∙ is.roster.list_each,
  rw (← ranks-each c is) (places_within_in (replaced (market c) d list) T best),
)
