-- Where the doctors of a case stand after events.
use Rattle.std.specs.Prelude.{◌≡◌, ℕ, ◌<◌, Bool, List, map, length, Option, Some, None, IsTrue, IfSome, All}
use Rattle.rm_sets.specs.Sets.{IsIn, below}
use Rattle.rm_market.specs.Best.{best_of, values_of}
use Rattle.rm_market.specs.Board.{Board, hospital_of}
use Rattle.rm_market.specs.Market.{Best, IsPlacementOf, IsStableIn, places_of, wishes_of}
use Rattle.rm_market.specs.Stable.{Wishes}
use Rattle.rm_case.specs.Case.{CaseData, market}
use Rattle.rm_transit_laws.specs.Transit.{Transit, after_events, all_rest, delivered, mark_of}
use Rattle.rm_transit_laws.specs.declared.Event.{Event}
use Rattle.rm_transit_laws.specs.declared.Mark.{Mark}
use Rattle.rm_transit_laws.specs.declared.Mark.TheVariants as mark

-- ---- marks

-- the contract of a mark, if it has one
abbrev pub contract_in : Mark → Option ℕ
contract_in mark.Free = None
contract_in mark.Done = None
contract_in (mark.Offered x) = Some x
contract_in (mark.Held x) = Some x
contract_in (mark.Refused x) = Some x

-- the contracts of marks are among n
abbrev pub AreMarksBelow : ℕ → List Mark → Type 0
AreMarksBelow n marks = All (λ m. IfSome (contract_in m) (λ x. x < n)) marks

-- the place of a doctor with this mark: the hospital of his held contract, or none
abbrev pub place_in : Board → Mark → Option ℕ
place_in b mark.Free = None
place_in b mark.Done = None
place_in b (mark.Offered x) = None
place_in b (mark.Held x) = Some (hospital_of b x)
place_in b (mark.Refused x) = None

-- the marks of the first n doctors
abbrev pub marks_of : Wishes → Transit → ℕ → List Mark
marks_of w t n = map (mark_of w t) (below n)

-- ---- after events

-- by any choice: these are the marks after events from the start, and whether nothing travels and nobody can send
abbrev pub StandsAfter : (List ℕ → List ℕ) → Wishes → List Event → List Mark → Bool → Type 0
StandsAfter chosen w es marks rests = (marks ≡ marks_of w (after_events chosen w es) (length w.listed)) × (rests ≡ all_rest w (after_events chosen w es))

-- the state after these events from the start, with the best subsets of the case's board
abbrev pub state_after : CaseData → List Event → Transit
state_after c es = after_events (best_of (values_of (market c).board)) (wishes_of (market c)) es

-- the mark of each doctor then
abbrev pub marks_after : CaseData → List Event → List Mark
marks_after c es = marks_of (wishes_of (market c)) (state_after c es) (length c.roster.doctors)

-- whether nothing travels and nobody can send
abbrev pub rests_after : CaseData → List Event → Bool
rests_after c es = all_rest (wishes_of (market c)) (state_after c es)

-- the contracts whose offers were delivered
abbrev pub delivered_after : CaseData → List Event → List ℕ
delivered_after c es = delivered (wishes_of (market c)) (state_after c es)

-- whatever the events: what is held is the best subset of all delivered offers, nothing that was refused stands in a stable set, and the marks tell
-- the places that the held contracts give; and where nothing travels and nobody can send, these are the placement
pub record LeadsToPlacement (c : CaseData) (es : List Event) : Type 0 where
  pub best : Best (market c) (delivered_after c es) (state_after c es).held
  pub refused : (x : ℕ) (T : List ℕ) → IsIn x (delivered_after c es) → ¬ IsIn x (state_after c es).held → IsStableIn (market c) T → ¬ IsIn x T
  pub places : map (place_in (market c).board) (marks_after c es) ≡ places_of (market c) (state_after c es).held
  pub rested : IsTrue (rests_after c es) → IsPlacementOf (market c) (state_after c es).held
