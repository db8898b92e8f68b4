-- What is proved of offers and refusals that travel.
use Rattle.std.specs.Prelude.{◌≡◌, ◌↔◌, ℕ, ◌+◌, ◌++◌, List, length, Some, IsTrue, slice_get, slice_index}
use Rattle.rm_sets.specs.Sets.{IsIn}
use Rattle.rm_market.specs.Stable.{Wishes, owner, list_of, IsStable, IsOnlyOptimal, Takes}
use Rattle.rm_market.specs.Market.{Market, wishes_of, Best, IsStableIn, IsPlacementOf}
use Rattle.rm_market.specs.Machine.{IsOutcome}
use Rattle.rm_market.specs.declared.Outcome.{Outcome}
use Rattle.rm_transit_laws.specs.declared.Event.{Event}
use Rattle.rm_transit_laws.specs.declared.Event.TheVariants as events
use Rattle.rm_transit_laws.specs.declared.Step.TheVariants as steps
use Rattle.rm_transit_laws.specs.Transit.{Sign, none, offer_travels, is_held, refusal_travels, Transit, sign_of, delivered, after_events, happens, step_of, all_rest}

-- of all events, in every order and repeated at will: what is held is chosen of all that was delivered; what was delivered and isn't
-- held stands in no stable set; and where nothing travels and nobody can send, what is held is the one optimal set
pub record TravelsWell (chosen : List ℕ → List ℕ) (w : Wishes) : Type 0 where
  pub held : (es : List Event) → (after_events chosen w es).held ≡ chosen (delivered w (after_events chosen w es))
  pub refused : (es : List Event) (x : ℕ) (T : List ℕ) → IsIn x (delivered w (after_events chosen w es)) → ¬ IsIn x (after_events chosen w es).held
      → IsStable (Takes chosen) w T → ¬ IsIn x T
  pub rested : (es : List Event) → IsTrue (all_rest w (after_events chosen w es)) → IsOnlyOptimal (Takes chosen) w (after_events chosen w es).held

-- an event does nothing exactly where it leaves the state as it was
abbrev pub NothingIsNoChange : (List ℕ → List ℕ) → Wishes → Type 0
NothingIsNoChange chosen w =
    (es : List Event) (e : Event)
    → (step_of chosen w (after_events chosen w es) e ≡ steps.Nothing) ↔ (happens chosen w (after_events chosen w es) e ≡ after_events chosen w es)

-- and where an offer arrives, the outcome is what it does to what is held
abbrev pub ArrivedIsTrue : (List ℕ → List ℕ) → Wishes → Type 0
ArrivedIsTrue chosen w =
    (es : List Event) (x : ℕ) (outcome : Outcome) → step_of chosen w (after_events chosen w es) (events.Offer x) ≡ steps.Arrived outcome
    → IsOutcome (after_events chosen w es).held x (happens chosen w (after_events chosen w es) (events.Offer x)).held outcome

-- whatever has happened, some more events bring everything to rest
abbrev pub TravelsClose : (List ℕ → List ℕ) → Wishes → Type 0
TravelsClose chosen w = (es : List Event) → (more : List Event) × IsTrue (all_rest w (after_events chosen w (es ++ more)))

-- the same in a market, with its best subsets
pub record TravelsWellIn (m : Market) (chosen : List ℕ → List ℕ) : Type 0 where
  pub held : (es : List Event) → Best m (delivered (wishes_of m) (after_events chosen (wishes_of m) es)) (after_events chosen (wishes_of m) es).held
  pub refused : (es : List Event) (x : ℕ) (T : List ℕ) → IsIn x (delivered (wishes_of m) (after_events chosen (wishes_of m) es))
      → ¬ IsIn x (after_events chosen (wishes_of m) es).held → IsStableIn m T → ¬ IsIn x T
  pub rested : (es : List Event) → IsTrue (all_rest (wishes_of m) (after_events chosen (wishes_of m) es))
      → IsPlacementOf m (after_events chosen (wishes_of m) es).held

-- ---- what marks say

-- no contract of d is held
abbrev pub HoldsNone : Wishes → Transit → ℕ → Type 0
HoldsNone w t d = (x : ℕ) → IsIn x t.held → ¬ (owner w x ≡ d)

-- x is what d sent last
abbrev pub IsLastSent : Wishes → Transit → ℕ → ℕ → Type 0
IsLastSent w t d x = (k : ℕ) × (slice_index t.spent d ≡ k + 1) × (slice_get (list_of w d) k ≡ Some x)

-- what d's mark says: what travels is his, an offer is what he sent last, and a contract of his is held exactly where the mark says so
abbrev pub IsMarked : Wishes → Transit → ℕ → Sign → Type 0
IsMarked w t d none = HoldsNone w t d
IsMarked w t d (offer_travels x) = (owner w x ≡ d) × IsLastSent w t d x × HoldsNone w t d
IsMarked w t d (is_held x) = (owner w x ≡ d) × IsIn x t.held
IsMarked w t d (refusal_travels x) = (owner w x ≡ d) × HoldsNone w t d

-- of all events: each doctor has a number and a mark, the mark is true, and at most one contract a doctor is held
pub record MarksAreTrue (chosen : List ℕ → List ℕ) (w : Wishes) : Type 0 where
  pub spent : (es : List Event) → length (after_events chosen w es).spent ≡ length w.listed
  pub signs : (es : List Event) → length (after_events chosen w es).signs ≡ length w.listed
  pub marked : (es : List Event) (d : ℕ) → IsMarked w (after_events chosen w es) d (sign_of (after_events chosen w es) d)
  pub once : (es : List Event) (x y : ℕ) → IsIn x (after_events chosen w es).held → IsIn y (after_events chosen w es).held → owner w x ≡ owner w y → x ≡ y
