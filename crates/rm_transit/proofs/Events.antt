-- What an event does to the state, told by marks.
use Rattle.std.proofs.Common.{◌≡◌, ◌∙◌, ℕ, ◌+◌, ◌<◌, ◌^◌, List, [], ◌∷◌, ◌++◌, Bool, true, false, cond, length, get_or, set, map, refl, sym, ap, subst, ⊎_elim, arith, Some, eq-eqb, ne_eqb, length-set, get_or-set_same, get_or-set_other, ext_get_or}
use Rattle.std.proofs.lemmas.Bool.{cases_eq}
use Rattle.std.proofs.lemmas.List.{length-map}
use Rattle.std.proofs.lemmas.Option.{slice_get-get_or}
use Rattle.std.proofs.lemmas.Map.Steps.{length-le_from_distinct_below}
use Rattle.std.specs.Prelude.{slice_get}
use Rattle.rm_sets.specs.Sets.{has, IsIn, IsSetBelow, with_one}
use Rattle.rm_sets.proofs.Sets.{not_both}
use Rattle.rm_sets.proofs.Members.{not_in_from, IsIn-with_one_old, IsIn-with_one_new, IsIn-without, not_in_without}
use Rattle.rm_market.specs.Best.{IsChoice}
use Rattle.rm_market.specs.Stable.{Wishes, owner, list_of}
use Rattle.rm_market.specs.Machine.{IsOutcome, outcome_of}
use Rattle.rm_market.specs.declared.Outcome.{Outcome}
use Rattle.rm_market.specs.declared.Outcome.TheVariants as out
use Rattle.rm_matching_laws.proofs.EveryChoice.{lawful}
use Rattle.rm_rounds.proofs.Turns.{outcome_only}
use Rattle.rm_transit_laws.specs.declared.Event.{Event}
use Rattle.rm_transit_laws.specs.declared.Event.TheVariants as events
use Rattle.rm_transit_laws.specs.declared.Step.TheVariants as steps
use Rattle.rm_transit_laws.specs.Transit.{Sign, none, offer_travels, is_held, refusal_travels, Transit, sign_of, with_sign, to_send, after_send, is_offer_of, is_refusal_of, answered, happens, step_of, departed}
use Rattle.rm_transit_laws.specs.Results.{IsMarked, MarksAreTrue}
use Rattle.rm_transit_laws.proofs.Marks.{mark-map, offered_is}
use Rattle.rm_transit_laws.proofs.Moves.{happen_append}
use Rattle.rm_transit_laws.proofs.Truth.{marks_true}
use Rattle.rm_transit.specs.declared.moves.Doctor.{Doctor}
use Rattle.rm_transit.specs.declared.moves.Sign.TheVariants as own
use Rattle.rm_transit.specs.Travel.{IsTransit, state, spent_each, sign_each, sign_told, is_unmarked, signs_after}
use Rattle.rm_transit.proofs.Doctors.{newcomer, sign_set, spent_set, spent_same, spent_at, sign_at, count_spent}

-- ---- marks of a state

-- each doctor has a number and a mark, the mark is true, and at most one contract a doctor is held
pub record AreTrue (w : Wishes) (t : Transit) : Type 0 where
  pub spent : length t.spent ≡ length w.listed
  pub signs : length t.signs ≡ length w.listed
  pub marked : (d : ℕ) → IsMarked w t d (sign_of t d)
  pub once : (x y : ℕ) → IsIn x t.held → IsIn y t.held → owner w x ≡ owner w y → x ≡ y

pub true_marks : (n : ℕ) (C : List ℕ → List ℕ) (w : Wishes) (t : Transit) → IsChoice n C → IsTransit n C w t → AreTrue w t
true_marks n C w t c is =
    let m : MarksAreTrue C w = marks_true n C w c is.wishes in
    let es = is.reached.0 in
    subst (AreTrue w) (sym is.reached.1) (record { spent = m.spent es; signs = m.signs es; marked = m.marked es; once = m.once es })

-- ---- an offer is answered

module _ (w : Wishes) (t : Transit) (r : AreTrue w t) where
  -- the mark of a held contract's doctor
  pub held_mark : (z : ℕ) → IsIn z t.held → sign_of t (owner w z) ≡ is_held z
  held_mark z i = by (sign_of t (owner w z)) (r.marked (owner w z))
    where
      by : (s : Sign) → IsMarked w t (owner w z) s → s ≡ is_held z
      by none m = absurd (m z i refl)
      by (offer_travels y) m = absurd (m.2 z i refl)
      by (is_held y) m = ap is_held (r.once y z m.1 i m.0)
      by (refusal_travels y) m = absurd (m.1 z i refl)

  module _ (x : ℕ) (at : sign_of t (owner w x) ≡ offer_travels x) where
    pub not_held : has x t.held ≡ false
    not_held = not_in_from x t.held (λ i. let m : IsMarked w t (owner w x) (offer_travels x) = subst (IsMarked w t (owner w x)) at (r.marked (owner w x)) in m.2 x i refl)

    module _ (new : List ℕ) where
      own_answer : (b : Bool) → has x new ≡ b → answered x new (sign_of t (owner w x)) ≡ cond b (is_held x) (refusal_travels x)
      own_answer b h =
          ap (answered x new) at
          ∙ ap (λ c. cond c (cond (has x new) (is_held x) (refusal_travels x)) (offer_travels x)) (eq-eqb x x refl)
          ∙ ap (λ c. cond c (is_held x) (refusal_travels x)) h

      unchanged : (i : ℕ) → (i ≡ owner w x → ⊥) → ((y : ℕ) → IsIn y t.held → owner w y ≡ i → has y new ≡ true) → answered x new (sign_of t i) ≡ sign_of t i
      unchanged i ne stays = by (sign_of t i) (r.marked i)
        where
          by : (s : Sign) → IsMarked w t i s → answered x new s ≡ s
          by none m = refl
          by (offer_travels y) m = ap (λ c. cond c (cond (has y new) (is_held y) (refusal_travels y)) (offer_travels y)) (ne_eqb x y (λ same. ne (sym m.0 ∙ ap (owner w) (sym same))))
          by (is_held y) m = ap (λ c. cond c (is_held y) (refusal_travels y)) (stays y m.1 m.0)
          by (refusal_travels y) m = refl

      long : (o : Outcome) → length (signs_after w.owners t.signs x o) ≡ length t.signs
      long out.Kept = length-set t.signs (owner w x) (is_held x)
      long out.Refused = length-set t.signs (owner w x) (refusal_travels x)
      long (out.Swapped z) = length-set (set t.signs (owner w z) (refusal_travels z)) (owner w x) (is_held x) ∙ length-set t.signs (owner w z) (refusal_travels z)

      module _ (here : owner w x < length t.signs) where
        answer_at : (o : Outcome) → IsOutcome t.held x new o → (i : ℕ) → i < length t.signs → get_or (signs_after w.owners t.signs x o) i none ≡ answered x new (sign_of t i)
        answer_at out.Kept is i lt =
            ⊎_elim
            (λ same. rw same (get_or-set_same t.signs (owner w x) (is_held x) none here ∙ sym (own_answer true (subst (IsIn x) (sym is) (IsIn-with_one_new t.held x)))))
            (λ ne. get_or-set_other t.signs (owner w x) i (is_held x) none ne ∙ sym (unchanged i ne (λ y j _. subst (IsIn y) (sym is) (IsIn-with_one_old t.held x y j))))
            (cases_eq i (owner w x))
        answer_at out.Refused is i lt =
            ⊎_elim
            (λ same. rw same (get_or-set_same t.signs (owner w x) (refusal_travels x) none here ∙ sym (own_answer false (ap (has x) is ∙ not_held))))
            (λ ne. get_or-set_other t.signs (owner w x) i (refusal_travels x) none ne ∙ sym (unchanged i ne (λ y j _. subst (IsIn y) (sym is) j)))
            (cases_eq i (owner w x))
        answer_at (out.Swapped z) is i lt =
            let first = set t.signs (owner w z) (refusal_travels z) in
            let kept : (y : ℕ) → IsIn y (with_one t.held x) → (y ≡ z → ⊥) → IsIn y new = λ y j ne. subst (IsIn y) (sym is.1) (IsIn-without (with_one t.held x) z y j ne) in
            let apart : x ≡ z → ⊥ = λ same. not_both (has x t.held) (subst (λ y. IsIn y t.held) (sym same) is.0) not_held in
            let gone : has z new ≡ false = ap (has z) is.1 ∙ not_in_without (with_one t.held x) z in
            ⊎_elim
            (λ same. rw same (get_or-set_same first (owner w x) (is_held x) none (let e = length-set t.signs (owner w z) (refusal_travels z) in omega (arith, e, here))
            ∙ sym (own_answer true (kept x (IsIn-with_one_new t.held x) apart))))
            (λ ne. get_or-set_other first (owner w x) i (is_held x) none ne
            ∙ ⊎_elim
            (λ his. rw his (get_or-set_same t.signs (owner w z) (refusal_travels z) none (subst (λ k. k < length t.signs) his lt)
            ∙ sym (ap (answered x new) (held_mark z is.0) ∙ ap (λ c. cond c (is_held z) (refusal_travels z)) gone)))
            (λ other. get_or-set_other t.signs (owner w z) i (refusal_travels z) none other
            ∙ sym (unchanged i ne (λ y j o. kept y (IsIn-with_one_old t.held x y j) (λ same. other (sym o ∙ ap (owner w) same)))))
            (cases_eq i (owner w z)))
            (cases_eq i (owner w x))

        pub all_answered : (o : Outcome) → IsOutcome t.held x new o → signs_after w.owners t.signs x o ≡ map (answered x new) t.signs
        all_answered o is =
            ext_get_or none (signs_after w.owners t.signs x o) (map (answered x new) t.signs) (long o ∙ sym (length-map t.signs (answered x new)))
            (λ i lt. answer_at o is i (let e = long o in omega (arith, lt, e)) ∙ sym (mark-map (answered x new) t.signs i refl))

-- ---- the steps of the code

-- an event leads on
pub next_transit : (n m : ℕ) (C E : List ℕ → List ℕ) (w : Wishes) (t u : Transit) (e : Event) → IsChoice n C → m ≡ n → E ≡ C → IsTransit n C w t → u ≡ happens C w t e → IsTransit m E w u
next_transit n m C E w t u e c count chosen is to =
    let es = is.reached.0 in
    subst (λ k. IsTransit k E w u) (sym count) (subst (λ F. IsTransit n F w u) (sym chosen) (record {
      few = is.few;
      wishes = is.wishes;
      reached = (es ++ e ∷ [], to ∙ ap (λ s. happens C w s e) is.reached.1 ∙ sym (happen_append C w (lawful n C w c is.wishes) es (e ∷ []) (departed w)));
    }))

pub doctors_long : (n : ℕ) (C : List ℕ → List ℕ) (w : Wishes) (ds : List Doctor) (held : List ℕ) → IsChoice n C → IsTransit n C w (state ds held) → length ds ≡ length w.listed
doctors_long n C w ds held c is = sym (count_spent ds) ∙ (true_marks n C w (state ds held) c is).spent

pub owner_low : (n : ℕ) (C : List ℕ → List ℕ) (w : Wishes) (ds : List Doctor) (held : List ℕ) → IsChoice n C → IsTransit n C w (state ds held) → (x : ℕ) → x < length w.owners → owner w x < length ds
owner_low n C w ds held c is x lt =
    let contracts = is.wishes.contracts in
    let low = is.wishes.owners x (omega (arith, lt, contracts)) in
    let long = doctors_long n C w ds held c is in
    omega (arith, low, long)

-- no list is longer than there are contracts
pub list_short : (n : ℕ) (C : List ℕ → List ℕ) (w : Wishes) (t : Transit) → IsTransit n C w t → (d : ℕ) → d < length w.listed → length (list_of w d) < 2 ^ 32
list_short n C w t is d lt =
    let wished = is.wishes.lists d lt in
    let contracts = is.wishes.contracts in
    let most = length-le_from_distinct_below (list_of w d) n wished.distinct (λ x i. let below = wished.below x i in omega (arith, below, contracts)) in
    let few = is.few in
    omega (arith, most, few)

-- a refusal arrives
pub refused_state : (ds : List Doctor) (i x : ℕ) (held : List ℕ) → is_refusal_of x (sign_told (get_or ds i newcomer).sign) ≡ true
    → state (set ds i (record { spent = (get_or ds i newcomer).spent; sign = own.Empty })) held ≡ cond (is_refusal_of x (get_or (sign_each ds) i none)) (with_sign (state ds held) i none) (state ds held)
refused_state ds i x held can =
    let a : Doctor = record { spent = (get_or ds i newcomer).spent; sign = own.Empty } in
    rw (spent_same ds i a newcomer refl, sign_set ds i a) (sym (ap (λ b. cond b (with_sign (state ds held) i none) (state ds held)) (ap (is_refusal_of x) (sign_at ds i) ∙ can)))

pub refused_step : (ds : List Doctor) (i x : ℕ) → is_refusal_of x (sign_told (get_or ds i newcomer).sign) ≡ true → steps.Returned ≡ cond (is_refusal_of x (get_or (sign_each ds) i none)) steps.Returned steps.Nothing
refused_step ds i x can = sym (ap (λ b. cond b steps.Returned steps.Nothing) (ap (is_refusal_of x) (sign_at ds i) ∙ can))

-- the next contract is sent
module _ (ds : List Doctor) (d : ℕ) (L : List ℕ) (free : is_unmarked (sign_told (get_or ds d newcomer).sign) ≡ true) (left : (get_or ds d newcomer).spent < length L) where
  no_mark : get_or (sign_each ds) d none ≡ none
  no_mark = sign_at ds d ∙ by (sign_told (get_or ds d newcomer).sign) free
    where
      by : (s : Sign) → is_unmarked s ≡ true → s ≡ none
      by none e = refl
      by (offer_travels x) e = absurd (not_both true refl (sym e))
      by (is_held x) e = absurd (not_both true refl (sym e))
      by (refusal_travels x) e = absurd (not_both true refl (sym e))

  pub next_sent : to_send (get_or (sign_each ds) d none) (slice_get L (get_or (spent_each ds) d 0)) ≡ Some (get_or L (get_or ds d newcomer).spent 0)
  next_sent = ap (λ s. to_send s (slice_get L (get_or (spent_each ds) d 0))) no_mark ∙ ap (slice_get L) (spent_at ds d) ∙ slice_get-get_or L (get_or ds d newcomer).spent 0 left

  pub sent_state : (held : List ℕ)
      → state (set ds d (record { spent = (get_or ds d newcomer).spent + 1; sign = own.Offer (get_or L (get_or ds d newcomer).spent 0) })) held
      ≡ after_send (state ds held) d (to_send (get_or (sign_each ds) d none) (slice_get L (get_or (spent_each ds) d 0)))
  sent_state held =
      let a : Doctor = record { spent = (get_or ds d newcomer).spent + 1; sign = own.Offer (get_or L (get_or ds d newcomer).spent 0) } in
      rw (next_sent, spent_set ds d a, sign_set ds d a, spent_at ds d) refl

-- an offer arrives
module _ (n : ℕ) (C : List ℕ → List ℕ) (w : Wishes) (ds : List Doctor) (held : List ℕ) (c : IsChoice n C) (is : IsTransit n C w (state ds held)) (x : ℕ) (low : x < length w.owners)
    (can : is_offer_of x (sign_told (get_or ds (owner w x) newcomer).sign) ≡ true) where
  offered : sign_of (state ds held) (owner w x) ≡ offer_travels x
  offered = sign_at ds (owner w x) ∙ offered_is (sign_told (get_or ds (owner w x) newcomer).sign) x can

  can_here : is_offer_of x (sign_of (state ds held) (owner w x)) ≡ true
  can_here = ap (is_offer_of x) offered ∙ eq-eqb x x refl

  truth : AreTrue w (state ds held)
  truth = true_marks n C w (state ds held) c is

  pub offered_new : has x held ≡ false
  offered_new = not_held w (state ds held) truth x offered

  pub arrived_state : (more : List Doctor) (new : List ℕ) (o : Outcome) → new ≡ C (with_one held x) → IsOutcome held x new o
      → sign_each more ≡ signs_after w.owners (sign_each ds) x o → spent_each more ≡ spent_each ds → state more new ≡ happens C w (state ds held) (events.Offer x)
  arrived_state more new o taken did signs spent =
      let here : owner w x < length (sign_each ds) = let low2 = owner_low n C w ds held c is x low in let e = length-map ds (λ b. sign_told b.sign) in omega (arith, low2, e) in
      let all = signs ∙ all_answered w (state ds held) truth x offered new here o did in
      rw (can_here) (rw (spent, all, taken) refl)

  pub arrived_step : (new : List ℕ) (o : Outcome) → new ≡ C (with_one held x) → IsOutcome held x new o → steps.Arrived o ≡ step_of C w (state ds held) (events.Offer x)
  arrived_step new o taken did =
      ap steps.Arrived (outcome_only held x new o offered_new did ∙ ap (outcome_of held x) taken)
      ∙ sym (ap (λ b. cond b (steps.Arrived (outcome_of held x (C (with_one held x)))) steps.Nothing) can_here)

-- who is put out is a contract of a doctor
pub swapped_low : (n : ℕ) (owners held : List ℕ) → IsSetBelow n held → length owners ≡ n → (x : ℕ) (new : List ℕ) (o : Outcome) → IsOutcome held x new o → (z : ℕ) → o ≡ out.Swapped z → z < length owners
swapped_low n owners held set contracts x new out.Kept is z e = absurd (cc)
swapped_low n owners held set contracts x new out.Refused is z e = absurd (cc)
swapped_low n owners held set contracts x new (out.Swapped y) is z e =
    let same : y ≡ z = cc in
    let low = set.below y is.0 in
    omega (arith, same, low, contracts)
