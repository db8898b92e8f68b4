-- What is proved of every market.
use Rattle.std.specs.Prelude.{◌≡◌, ℕ, ◌<◌, List, length, is_some, IsFalse}
use Rattle.rm_sets.specs.Sets.{IsIn, IsSetBelow}
use Rattle.rm_market.specs.Board.{contract_count}
use Rattle.rm_market.specs.Best.{IsChoice, values_of, best_of}
use Rattle.rm_market.specs.Stable.{at, prefers_place}
use Rattle.rm_market.specs.Machine.{IsClosed, offered_so_far}
use Rattle.rm_market.specs.Market.{Market, IsMarket, solve, IsList, wishes_of, Best, IsStableIn, IsPlacementOf, replaced}
use Rattle.rm_market.specs.Laws.{after, AreWishes}
use Rattle.rm_matching_laws.specs.Results.{RunsClose}

-- the function chooses the best subset of each set of the market's contracts
abbrev pub ChoosesBest : Market → (List ℕ → List ℕ) → Type 0
ChoosesBest m chosen = (X : List ℕ) → IsSetBelow (contract_count m.board) X → Best m X (chosen X)

-- some closed run ends in the market's one placement
abbrev pub HasPlacement : Market → (List ℕ → List ℕ) → Type 0
HasPlacement m chosen = (ds : List ℕ) × IsClosed chosen (wishes_of m) (after chosen (wishes_of m) ds) × IsPlacementOf m (after chosen (wishes_of m) ds).held

-- deferred acceptance with the best subsets, of every run, in every order: what is held is the best subset of all that was offered; what was offered and
-- isn't held stands in no stable set; and where it is closed, what is held is the placement
pub record RunsWellIn (m : Market) (chosen : List ℕ → List ℕ) : Type 0 where
  pub held : (ds : List ℕ) → Best m (offered_so_far (wishes_of m) (after chosen (wishes_of m) ds)) (after chosen (wishes_of m) ds).held
  pub refused : (ds : List ℕ) (x : ℕ) (T : List ℕ) → IsIn x (offered_so_far (wishes_of m) (after chosen (wishes_of m) ds))
      → ¬ IsIn x (after chosen (wishes_of m) ds).held
      → IsStableIn m T → ¬ IsIn x T
  pub closed : (ds : List ℕ) → IsClosed chosen (wishes_of m) (after chosen (wishes_of m) ds) → IsPlacementOf m (after chosen (wishes_of m) ds).held

-- rural hospitals, for doctors: all stable sets place the same ones
abbrev pub PlacesSameIn : Market → Type 0
PlacesSameIn m = (S T : List ℕ) (d : ℕ) → IsStableIn m S → IsStableIn m T → is_some (at (wishes_of m) d S) ≡ is_some (at (wishes_of m) d T)

-- truthfulness: by no other list of hospitals does a doctor get a contract that he prefers, and with it there is a placement too
pub record IsTruthfulIn (m : Market) : Type 0 where
  pub exists : (d : ℕ) (list : List ℕ) → IsList m.board list → (T : List ℕ) × IsPlacementOf (replaced m d list) T
  pub no_gain : (d : ℕ) (list S T : List ℕ) → d < length m.lists → IsList m.board list → IsPlacementOf m S → IsPlacementOf (replaced m d list) T
      → IsFalse (prefers_place (wishes_of m) d (at (wishes_of m) d T) (at (wishes_of m) d S))

-- each run goes on to a closed one
abbrev pub RunsCloseIn : Market → (List ℕ → List ℕ) → Type 0
RunsCloseIn m chosen = RunsClose chosen (wishes_of m)

-- ---- the theorems

-- something holds of every market
abbrev pub OfMarkets : (Market → Type 0) → Type 0
OfMarkets Holds = (m : Market) → IsMarket m → Holds m

-- something holds of every market and each function that gives its best subsets
abbrev pub OfBestChoices : (Market → (List ℕ → List ℕ) → Type 0) → Type 0
OfBestChoices Holds = (m : Market) → IsMarket m → (chosen : List ℕ → List ℕ) → ChoosesBest m chosen → Holds m chosen

-- the doctors' lists are wishes over the market's contracts
abbrev pub HasWishes : Market → Type 0
HasWishes m = AreWishes (contract_count m.board) (wishes_of m)

-- with another list of a doctor it is a market again
abbrev pub StaysMarket : Market → Type 0
StaysMarket m = (d : ℕ) (list : List ℕ) → IsList m.board list → IsMarket (replaced m d list)

-- the plain program over all subsets gives the best subsets
abbrev pub BestOfChoosesBest : Market → Type 0
BestOfChoosesBest m = ChoosesBest m (best_of (values_of m.board))

-- the function is a lawful choice
abbrev pub IsLawfulIn : Market → (List ℕ → List ℕ) → Type 0
IsLawfulIn m chosen = IsChoice (contract_count m.board) chosen

-- the market has a placement
abbrev pub PlacementExists : Market → Type 0
PlacementExists m = (S : List ℕ) × IsPlacementOf m S

-- the plain program by turns gives it
abbrev pub SolveIsPlacement : Market → Type 0
SolveIsPlacement m = IsPlacementOf m (solve m)
