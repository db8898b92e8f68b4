-- Runs of a case's events, in its market.
use Rattle.std.proofs.Common.{◌≡◌, ◌<◌, ◌+◌, ◌++◌, ℕ, List, [], ◌∷◌, Bool, true, false, length, get_or, drop, map, Option, None, option_map, refl, sym, ap, ap₂, ◌∙◌, subst, add-one, drop-cons}
use Rattle.std.proofs.lemmas.List.{length-map, map-append}
use Rattle.rm_sets.specs.Sets.{below}
use Rattle.rm_sets.proofs.Once.{length-below}
use Rattle.rm_market.specs.Best.{best_of, values_of}
use Rattle.rm_market.specs.Board.{Board, contract_count, hospital_of, owners_of}
use Rattle.rm_market.specs.Market.{places_of, wishes_of}
use Rattle.rm_market.specs.Stable.{Wishes, at}
use Rattle.rm_matching_laws.proofs.Places.{IsSingle, contract_is, contract_is_none}
use Rattle.rm_market_laws.specs.Results.{ChoosesBest}
use Rattle.rm_market_laws.proofs.Market.{choice, plain_best}
use Rattle.rm_market_laws.proofs.Wishes.{are_wishes}
use Rattle.rm_case.specs.Case.{CaseData, IsCase, market}
use Rattle.rm_report.proofs.Applying.{listed-each}
use Rattle.rm_transit_laws.specs.declared.Event.{Event}
use Rattle.rm_transit_laws.specs.declared.Mark.{Mark}
use Rattle.rm_transit_laws.specs.Results.{IsMarked, MarksAreTrue}
use Rattle.rm_transit_laws.specs.Transit.{Sign, none, offer_travels, is_held, refusal_travels, Transit, sign_of, happens, all_happen, after_events, all_rest, mark_from, mark_of}
use Rattle.rm_transit_laws.proofs.Markets.{travels_well_in}
use Rattle.rm_transit_laws.proofs.Truth.{marks_true}
use Rattle.rm_transit.specs.Running.{place_in, marks_of, state_after, marks_after, rests_after, AreMarksBelow, LeadsToPlacement}
use Rattle.rm_transit.specs.Travel.{wishes}
use Rattle.rm_transit.proofs.MarkContracts.{marks_below}

-- ---- one more event, and one more doctor

pub one_happens : (C : List ℕ → List ℕ) (w : Wishes) (es : List Event) (i : ℕ) (e : Event) (t u : Transit) → i < length es → u ≡ happens C w t (get_or es i e)
    → all_happen C w u (drop (i + 1) es) ≡ all_happen C w t (drop i es)
one_happens C w es i e t u lt is =
    let rest : drop i es ≡ get_or es i e ∷ drop (i + 1) es = drop-cons es i e lt ∙ ap (λ k. get_or es i e ∷ drop k es) (sym (add-one i)) in
    ap (λ s. all_happen C w s (drop (i + 1) es)) is ∙ sym (ap (all_happen C w t) rest)

pub one_marked : (w : Wishes) (t : Transit) (d : ℕ) → marks_of w t (d + 1) ≡ marks_of w t d ++ mark_of w t d ∷ []
one_marked w t d = ap (marks_of w t) (add-one d) ∙ map-append (mark_of w t) (below d) (d ∷ [])

-- ---- the places that marks tell

module _ (b : Board) (w : Wishes) (t : Transit) (single : IsSingle w t.held) (d : ℕ) where
  none_held : at w d t.held ≡ None → None ≡ option_map (hospital_of b) (at w d t.held)
  none_held e = sym (ap (option_map (hospital_of b)) e)

  told_place : (has_next : Bool) (s : Sign) → IsMarked w t d s → place_in b (mark_from s has_next) ≡ option_map (hospital_of b) (at w d t.held)
  told_place true none m = none_held (contract_is_none w d t.held m)
  told_place false none m = none_held (contract_is_none w d t.held m)
  told_place has_next (offer_travels x) m = none_held (contract_is_none w d t.held m.2)
  told_place has_next (is_held x) m = sym (ap (option_map (hospital_of b)) (contract_is w d t.held x single m.1 m.0))
  told_place has_next (refusal_travels x) m = none_held (contract_is_none w d t.held m.1)

mapped_twice : (f : Mark → Option ℕ) (g : ℕ → Mark) (h : ℕ → Option ℕ) (xs : List ℕ) → ((x : ℕ) → f (g x) ≡ h x) → map f (map g xs) ≡ map h xs
mapped_twice f g h [] same = refl
mapped_twice f g h (x ∷ xs) same = rw (same x, mapped_twice f g h xs same) refl

module _ (c : CaseData) (ok : IsCase c) where
  abbrev chosen : List ℕ → List ℕ
  chosen = best_of (values_of (market c).board)

  best : ChoosesBest (market c) chosen
  best = plain_best (market c) ok.market

  true_marks : MarksAreTrue chosen (wishes_of (market c))
  true_marks = marks_true (contract_count (market c).board) chosen (wishes_of (market c)) (choice (market c) ok.market chosen best) (are_wishes (market c) ok.market)

  told_places : (es : List Event) → map (place_in (market c).board) (marks_after c es) ≡ places_of (market c) (state_after c es).held
  unfolding places_of
  told_places es =
      let w = wishes_of (market c) in
      let t = state_after c es in
      mapped_twice (place_in (market c).board) (mark_of w t) (λ d. option_map (hospital_of (market c).board) (at w d t.held)) (below (length c.roster.doctors))
      (λ d. told_place (market c).board w t (true_marks.once es) d _ (sign_of t d) (true_marks.marked es d))
      ∙ ap (λ n. map (λ d. option_map (hospital_of (market c).board) (at w d t.held)) (below n)) (sym ok.roster.list_each)

  pub leads : (es : List Event) → LeadsToPlacement c es
  leads es =
      let well = travels_well_in (market c) ok.market chosen best in
      record { best = well.held es; refused = well.refused es; places = told_places es; rested = well.rested es }

-- ---- what a run over the case's board tells

pub marks_long : (w : Wishes) (t : Transit) (n : ℕ) → length (marks_of w t n) ≡ n
marks_long w t n = length-map (below n) (mark_of w t) ∙ length-below n

module _ (c : CaseData) (ok : IsCase c) (b : Board) (C : List ℕ → List ℕ) (own : List ℕ) (listed : List (List ℕ)) (board : b ≡ (market c).board) (chooses : C ≡ best_of (values_of b)) (owners : own ≡ owners_of b) (lists : listed ≡ (wishes_of (market c)).listed) (es : List Event) where
  pub same_wishes : wishes own listed ≡ wishes_of (market c)
  same_wishes = ap₂ wishes (owners ∙ ap owners_of board) lists

  same_chosen : C ≡ best_of (values_of (market c).board)
  same_chosen = chooses ∙ ap (λ a. best_of (values_of a)) board

  pub marks_are : (marks : List Mark) → marks ≡ marks_of (wishes own listed) (after_events C (wishes own listed) es) (length listed) → marks ≡ marks_after c es
  marks_are marks e =
      e
      ∙ ap₂ (λ D w. marks_of w (after_events D w es) (length w.listed)) same_chosen same_wishes
      ∙ ap (marks_of (wishes_of (market c)) (state_after c es)) (listed-each c ok)

  pub rests_are : (rests : Bool) → rests ≡ all_rest (wishes own listed) (after_events C (wishes own listed) es) → rests ≡ rests_after c es
  rests_are rests e = e ∙ ap₂ (λ D w. all_rest w (after_events D w es)) same_chosen same_wishes

pub case_marks_below : (c : CaseData) → IsCase c → (es : List Event) (marks : List Mark) → marks ≡ marks_after c es → AreMarksBelow (contract_count (market c).board) marks
case_marks_below c ok es marks e =
    subst (AreMarksBelow (contract_count (market c).board)) (sym e)
    (marks_below (contract_count (market c).board) (best_of (values_of (market c).board)) (wishes_of (market c)) (are_wishes (market c) ok.market) es (below (length c.roster.doctors)))
