-- What is read of the state: where a doctor stands, and whether everything rests.
use Rattle.std.proofs.Common.{◌≡◌, ◌∙◌, ℕ, ◌<◌, ◌≤◌, ◌&&◌, List, [], Bool, true, false, length, get_or, refl, sym, ap, subst, ⊎_elim, Option, Some, None, is_some}
use Rattle.std.proofs.lemmas.Bool.{cases_Bool}
use Rattle.std.proofs.lemmas.List.{get_or-map}
use Rattle.std.proofs.lemmas.Option.{slice_get-get_or, slice_get_past}
use Rattle.std.specs.Prelude.{slice_get, is_none}
use Rattle.rm_sets.specs.Sets.{IsIn, below}
use Rattle.rm_sets.proofs.Sets.{not_both, below-all_below}
use Rattle.rm_sets.proofs.Members.{IsIn-all_below}
use Rattle.rm_sets.proofs.Search.{into_list_all, from_list_all}
use Rattle.rm_market.specs.Best.{IsChoice}
use Rattle.rm_market.specs.Stable.{Wishes, list_of, IsStable, IsOnlyOptimal, Takes}
use Rattle.rm_matching_laws.proofs.EveryChoice.{lawful}
use Rattle.rm_transit_laws.specs.Transit.{Sign, none, offer_travels, is_held, refusal_travels, Transit, sign_of, to_send, sendable, mark_from, mark_of, delivered, is_at_rest, all_rest}
use Rattle.rm_transit_laws.specs.Results.{TravelsWell}
use Rattle.rm_transit_laws.proofs.Travel.{travels_well}
use Rattle.rm_transit.specs.declared.moves.Doctor.{Doctor}
use Rattle.rm_transit.specs.declared.moves.Sign as own_sign
use Rattle.rm_transit.specs.Travel.{TransitTold, IsTransit, transit_state, wishes, state, spent_each, sign_each, sign_told, settled_mark}

-- ---- the state as it is told

module _ {H : Type 0} (count : H → ℕ) (chosen : H → List ℕ → List ℕ) (held : H → List ℕ) (k : TransitTold H) (owners : List ℕ) (listed : List (List ℕ)) (ds : List Doctor) (holder : H)
    (e : record { wishes = wishes owners listed; spent = spent_each ds; signs = sign_each ds; holder = holder } ≡ k) where
  pub told : IsTransit (count holder) (chosen holder) (wishes owners listed) (state ds (held holder)) → IsTransit (count k.holder) (chosen k.holder) k.wishes (transit_state held k)
  told is = subst (λ t. IsTransit (count t.holder) (chosen t.holder) t.wishes (transit_state held t)) e is

  -- a doctor's mark as it is read
  pub mark_told : (a : Doctor) (d : ℕ) → d < length ds → a ≡ get_or ds d a → (s : own_sign.Sign) → a.sign ≡ s → (b : Bool) → is_some (slice_get (get_or listed d []) a.spent) ≡ b
      → mark_from (sign_told s) b ≡ mark_of k.wishes (transit_state held k) d
  mark_told a d lt at s is b has =
      let sign : get_or (sign_each ds) d none ≡ sign_told s = get_or-map (λ (c : Doctor). sign_told c.sign) ds d a none lt ∙ ap (λ (c : Doctor). sign_told c.sign) (sym at) ∙ ap sign_told is in
      let spent : get_or (spent_each ds) d 0 ≡ a.spent = get_or-map (λ (c : Doctor). c.spent) ds d a 0 lt ∙ ap (λ (c : Doctor). c.spent) (sym at) in
      ap (mark_from (sign_told s)) (sym has)
      ∙ ap (λ n. mark_from n (is_some (slice_get (get_or listed d []) a.spent))) (sym sign)
      ∙ ap (λ j. mark_from (get_or (sign_each ds) d none) (is_some (slice_get (get_or listed d []) j))) (sym spent)
      ∙ ap (λ j. mark_of j.wishes (transit_state held j) d) e

pub has_next : (L : List ℕ) (k : ℕ) → k < length L → is_some (slice_get L k) ≡ true
has_next L k lt = ap is_some (slice_get-get_or L k 0 lt)

pub no_next : (L : List ℕ) (k : ℕ) → length L ≤ k → is_some (slice_get L k) ≡ false
no_next L k le = ap is_some (slice_get_past L k le)

-- ---- rest

settled_rests : (s : Sign) (o : Option ℕ) → settled_mark (mark_from s (is_some o)) ≡ (is_at_rest s && is_none (to_send s o))
settled_rests none None = refl
settled_rests none (Some x) = refl
settled_rests (offer_travels y) o = refl
settled_rests (is_held y) o = refl
settled_rests (refusal_travels y) o = refl

module _ (w : Wishes) (t : Transit) where
  abbrev rests : ℕ → Bool
  rests d = is_at_rest (sign_of t d) && is_none (sendable w t d)

  as_marked : (d : ℕ) → settled_mark (mark_of w t d) ≡ rests d
  as_marked d = settled_rests (sign_of t d) (slice_get (list_of w d) (get_or t.spent d 0))

  pub all_settled : ((d : ℕ) → d < length w.listed → settled_mark (mark_of w t d) ≡ true) → all_rest w t ≡ true
  all_settled each = into_list_all rests (below (length w.listed)) (λ d i. sym (as_marked d) ∙ each d (below-all_below (length w.listed) (λ _. true) d i).0)

  pub one_unsettled : (d : ℕ) → d < length w.listed → settled_mark (mark_of w t d) ≡ false → all_rest w t ≡ false
  one_unsettled d lt out =
      ⊎_elim
      (λ yes. absurd (not_both (rests d) (from_list_all rests (below (length w.listed)) yes d (IsIn-all_below (length w.listed) (λ _. true) d lt refl)) (sym (as_marked d) ∙ out)))
      (λ h. h)
      (cases_Bool (all_rest w t))

-- ---- what holds of all events

module _ (n : ℕ) (C : List ℕ → List ℕ) (w : Wishes) (t : Transit) (c : IsChoice n C) (is : IsTransit n C w t) where
  well : TravelsWell C w
  well = travels_well C w (lawful n C w c is.wishes)

  pub rested : all_rest w t ≡ true → IsOnlyOptimal (Takes C) w t.held
  rested = subst (λ s. all_rest w s ≡ true → IsOnlyOptimal (Takes C) w s.held) (sym is.reached.1) (well.rested is.reached.0)

  pub held_is_chosen : t.held ≡ C (delivered w t)
  held_is_chosen = subst (λ s. s.held ≡ C (delivered w s)) (sym is.reached.1) (well.held is.reached.0)

  pub refused_nowhere : (x : ℕ) (T : List ℕ) → IsIn x (delivered w t) → ¬ IsIn x t.held → IsStable (Takes C) w T → ¬ IsIn x T
  refused_nowhere = subst (λ s. (x : ℕ) (T : List ℕ) → IsIn x (delivered w s) → ¬ IsIn x s.held → IsStable (Takes C) w T → ¬ IsIn x T) (sym is.reached.1) (well.refused is.reached.0)
