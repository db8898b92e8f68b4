-- The placement of a case, by the desk of its doctors.
use Rattle.std.proofs.Common.{◌≡◌, ℕ, suc, ◌<◌, List, [], ◌∷◌, ◌++◌, map, length, take, get_or, set, Option, option_map, sym, ap, ap₂, ◌∙◌, subst, subst₂}
use Rattle.std.proofs.lemmas.List.{map-append}
use Rattle.std.proofs.Math.Seq.{take-suc-set}
use Rattle.rm_sets.specs.Sets.{IsSetBelow, below}
use Rattle.rm_market.specs.Board.{Board, contract_count, hospital_of, owners_of, owners_of_ranks, pairs_of}
use Rattle.rm_market.specs.Best.{IsBest, values_of}
use Rattle.rm_market.specs.Stable.{Wishes, at, IsOnlyOptimal, Takes}
use Rattle.rm_market.specs.Laws.{AreWishes}
use Rattle.rm_market.specs.Market.{Market, IsMarket, IsPlacementOf, wishes_of, places_of}
use Rattle.rm_market_laws.proofs.BestSets.{only_optimal_best}
use Rattle.rm_market_laws.proofs.Wishes.{are_wishes, listed_long}
use Rattle.rm_rounds.specs.Desk.{wishes}
use Rattle.rm_case.specs.Case.{CaseData, IsCase, market}
use Rattle.rm_case.specs.Solving.{AreListed, ArePlacesOf, IsSolved, IsSolvedWith, places_on, wishes_with}

pub places-more : (F : ℕ → Option ℕ) (d : ℕ) (P : List (Option ℕ)) (v : Option ℕ) → take d P ≡ map F (below d) → d < length P → v ≡ F d → take (suc d) (set P d v) ≡ map F (below (suc d))
places-more F d P v done lt e = take-suc-set P d v lt ∙ ap₂ (λ L u. L ++ u ∷ []) done e ∙ sym (map-append F (below d) (d ∷ []))

-- what a closed desk holds is the one optimal set, told for the best subsets on the board
pub closed-places :
    (b : Board) (own : List ℕ) (listed : List (List ℕ)) (opened w : Wishes) (C D E : List ℕ → List ℕ) (S : List ℕ) (places : List (Option ℕ)) →
    own ≡ owners_of b → opened ≡ wishes own listed → w ≡ opened → D ≡ C → E ≡ D →
    ((X : List ℕ) → IsSetBelow (contract_count b) X → IsBest (values_of b) X (C X)) → AreWishes (contract_count b) (wishes (owners_of b) listed) →
    IsOnlyOptimal (Takes E) w S → places ≡ places_on b w S →
    (T : List ℕ) × IsOnlyOptimal (IsBest (values_of b)) (wishes (owners_of b) listed) T × (places ≡ places_on b (wishes (owners_of b) listed) T)
closed-places b own listed opened w C D E S places o v u d e best are optimal at =
    let same : w ≡ wishes (owners_of b) listed = u ∙ v ∙ ap (λ L. wishes L listed) o in
    let taken : IsOnlyOptimal (Takes C) (wishes (owners_of b) listed) S = subst₂ (λ F x. IsOnlyOptimal (Takes F) x S) (e ∙ d) same optimal in (
      S,
      only_optimal_best (contract_count b) (values_of b) (wishes (owners_of b) listed) are.contracts C best S taken,
      subst (λ x. places ≡ places_on b x S) same at,
    )

-- the places of the one optimal set by a market's wishes are those of its placement
pub solved-in : (m : Market) → IsMarket m → (places : List (Option ℕ)) → ArePlacesOf m.board (wishes_of m) places → (T : List ℕ) × IsPlacementOf m T × (places ≡ places_of m T)
unfolding places_of
solved-in m made places found =
    (found.0, found.1, found.2 ∙ ap (λ n. map (λ d. option_map (hospital_of m.board) (at (wishes_of m) d found.0)) (below n)) (listed_long m made))

module _ (c : CaseData) (ok : IsCase c) where
  doctors : length (market c).lists ≡ length c.roster.doctors
  doctors = ok.roster.list_each

  -- lists of each doctor's own contracts are wishes
  pub wishes-are : (listed : List (List ℕ)) → AreListed c listed → AreWishes (contract_count (market c).board) (wishes_with c listed)
  wishes-are listed l =
      let own = are_wishes (market c) ok.market in
      let as_many : length (wishes_of (market c)).listed ≡ length listed = listed_long (market c) ok.market ∙ doctors ∙ sym l.doctors in
      record {
        contracts = own.contracts;
        owners = λ x lt. subst (λ n. get_or (wishes_of (market c)).owners x 0 < n) as_many (own.owners x lt);
        lists = l.lists;
      }

  -- the case's own lists
  pub own-listed : AreListed c (wishes_of (market c)).listed
  own-listed = record {
    doctors = listed_long (market c) ok.market ∙ doctors;
    lists = (are_wishes (market c) ok.market).lists;
  }

  -- and so on each board with the case's contracts
  pub wishes-on : (b : Board) (listed : List (List ℕ)) → b.ranks ≡ (market c).board.ranks → listed ≡ (wishes_of (market c)).listed → AreWishes (contract_count b) (wishes (owners_of b) listed)
  wishes-on b listed same own =
      let are : AreWishes (contract_count (market c).board) (wishes (owners_of (market c).board) (wishes_of (market c)).listed) = are_wishes (market c) ok.market in
      subst₂ (λ (R L : List (List ℕ)). AreWishes (length (pairs_of R)) (wishes (owners_of_ranks R) L)) (sym same) (sym own) are

  pub own-solved : (places : List (Option ℕ)) → IsSolvedWith c (wishes_of (market c)).listed places → IsSolved c places
  own-solved places found =
      let all = solved-in (market c) ok.market places found in
      record { set = all.0; placement = all.1; feasible = all.1.optimal.stable.kept.feasible; places = all.2 }
