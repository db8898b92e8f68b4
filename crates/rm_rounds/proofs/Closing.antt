-- How turns settle the doctors.
use Rattle.std.proofs.Common.{◌≡◌, ◌↔◌, ℕ, ◌+◌, ◌<◌, ◌≤◌, List, [], ◌∷◌, ◌++◌, Bool, true, false, ltb, not, ◌&&◌, ◌⊎◌, length, get_or, set, refl, sym, ap, ◌∙◌, subst, inl, inr, ⊎_elim, arith, Option, Some, None, is_some, get_or-set_other}
use Rattle.std.proofs.lemmas.Bool.{cond-true, cond-false, cases_eq, cases_lt, cases_Bool, lt-ltb, le-ltb}
use Rattle.std.specs.Prelude.{slice_get, IfSome}
use Rattle.rm_sets.specs.Sets.{has, IsIn, with_one}
use Rattle.rm_sets.proofs.Sets.{not_both, below-all_below}
use Rattle.rm_sets.proofs.Members.{IsIn-with_one_old, IsIn-with_one_new, IsIn-without}
use Rattle.rm_sets.proofs.Sizes.{length_below}
use Rattle.rm_market.specs.Best.{IsChoice}
use Rattle.rm_market.specs.Stable.{Wishes, owner, list_of, IsStable, IsOnlyOptimal, Takes}
use Rattle.rm_market.specs.Laws.{RunsWell}
use Rattle.rm_market.specs.Machine.{State, start, is_placed, next_offer, offered, after_offer, after_turn, run, IsOutcome, outcome_of, turn_from, turn_of, offered_so_far, IsClosed}
use Rattle.rm_market.specs.declared.Outcome.{Outcome}
use Rattle.rm_market.specs.declared.Outcome.TheVariants as out
use Rattle.rm_market.specs.declared.Turn.{Turn}
use Rattle.rm_market.specs.declared.Turn.TheVariants as turns
use Rattle.rm_matching_laws.proofs.Places.{placed_from, from_placed}
use Rattle.rm_matching_laws.proofs.Runs.{IsSetBelow-offered}
use Rattle.rm_matching_laws.proofs.ClosedRuns.{more_offered, nobody_closed, closed_cannot}
use Rattle.rm_matching_laws.proofs.Tests.{outcome_is}
use Rattle.rm_matching_laws.proofs.EveryChoice.{every_choice}
use Rattle.rm_rounds.specs.Desk.{DeskTold, IsDesk, wishes, state, desk_state, Leads, Settles, going_on, left, one_if_some}
use Rattle.rm_rounds.proofs.Turns.{desk_lawful, desk_reached, next_none, next_some, past, own, offered_below, offered_new, held_set, held_own, held_below, moved_turn}

-- a doctor who can't offer still can't, where he is held if he was, and has offered no more
still_settled : (w : Wishes) (s t : State) (e : ℕ) → get_or t.spent e 0 ≡ get_or s.spent e 0 → (is_placed w s e ≡ true → is_placed w t e ≡ true) → next_offer w s e ≡ None → next_offer w t e ≡ None
still_settled w s t e spent keeps none =
    ⊎_elim
    (λ yes. cond-true (is_placed w t e) None (slice_get (list_of w e) (get_or t.spent e 0)) yes)
    (λ no.
    let before : is_placed w s e ≡ false = ⊎_elim (λ y. absurd (not_both (is_placed w t e) (keeps y) no)) (λ n. n) (cases_Bool (is_placed w s e)) in
    cond-false (is_placed w t e) None (slice_get (list_of w e) (get_or t.spent e 0)) no
    ∙ ap (slice_get (list_of w e)) spent
    ∙ sym (cond-false (is_placed w s e) None (slice_get (list_of w e) (get_or s.spent e 0)) before)
    ∙ none)
    (cases_Bool (is_placed w t e))

number : Option ℕ → ℕ
number None = 0
number (Some x) = x

some_same : (f e : ℕ) → Some f ≡ Some e → f ≡ e
unfolding number
some_same f e k = ap number k

at_most_one : (o : Option ℕ) → one_if_some o ≤ 1
at_most_one None = omega arith
at_most_one (Some e) = omega arith

-- whom a turn put out
abbrev put_out : Turn → Option ℕ
put_out turns.Idle = None
put_out turns.Done = None
put_out (turns.Moved x out.Kept) = None
put_out (turns.Moved x out.Refused) = None
put_out (turns.Moved x (out.Swapped z)) = Some z

-- one run after another
run_on : (C : List ℕ → List ℕ) (w : Wishes) (ds es : List ℕ) (r s t : State) → s ≡ run C w r ds → t ≡ run C w s es → t ≡ run C w r (ds ++ es)
run_on C w [] es r s t e f = f ∙ ap (λ u. run C w u es) e
run_on C w (d ∷ ds) es r s t e f = run_on C w ds es (after_turn C w r d) s t e f

-- the same of what is equal to the choice and the wishes
pub leads_on : (C D : List ℕ → List ℕ) (w v : Wishes) (r s t : State) → D ≡ C → v ≡ w → Leads C w r s → Leads D v s t → Leads C w r t
leads_on C D w v r s t same_choice same_wishes first other =
    let second : Leads C w s t = subst (λ F. Leads F w s t) same_choice (subst (λ u. Leads D u s t) same_wishes other) in
    (first.0 ++ second.0, run_on C w first.0 second.0 r s t first.1 second.1)

pub settles_same : (C D : List ℕ → List ℕ) (w v : Wishes) (next : Option ℕ) (d : ℕ) (s t : State) → D ≡ C → v ≡ w → Settles D v next d s t → Settles C w next d s t
settles_same C D w v next d s t same_choice same_wishes other = subst (λ F. Settles F w next d s t) same_choice (subst (λ u. Settles D u next d s t) same_wishes other)

-- from one doctor who is to go on to the next
pub settles_more : (C D : List ℕ → List ℕ) (w v : Wishes) (d e : ℕ) (last next : Option ℕ) (r s t : State) → last ≡ Some e → D ≡ C → v ≡ w → Settles C w last d r s → Settles D v next e s t → Settles C w next d r t
settles_more C D w v d e last next r s t is same_choice same_wishes first other =
    let second : Settles C w next e s t = settles_same C D w v next e s t same_choice same_wishes other in
    record {
      reached = leads_on C D w v r s t same_choice same_wishes first.reached other.reached;
      settled = λ f ne h. ⊎_elim
          (λ same. second.settled f ne (inl same))
          (λ other. second.settled f ne (inr (first.settled f (λ k. other (some_same f e (k ∙ is))) h)))
          (cases_eq f e);
    }

-- the doctors below d, and then d, are settled
pub one_more_settled : (C : List ℕ → List ℕ) (w : Wishes) (d : ℕ) (s t : State) → Settles C w None d s t → ((e : ℕ) → e < d → next_offer w s e ≡ None) → (e : ℕ) → e < d + 1 → next_offer w t e ≡ None
one_more_settled C w d s t more below e lt =
    more.settled e (λ k. not_both true refl (ap is_some k))
    (⊎_elim (λ same. inl same) (λ ne. inr (below e (omega (arith, lt, ne)))) (cases_eq e d))

module _ (n : ℕ) (C : List ℕ → List ℕ) (w : Wishes) (s : State) (places : List (Option ℕ)) (law : IsChoice n C) (desk : IsDesk n C w s places) where
  module _ (d : ℕ) (doctor : d < length w.listed) where
    can_offer_test : (L : List ℕ) → L ≡ list_of w d → (not (is_some (get_or places d None)) && ltb (get_or s.spent d 0) (length L)) ≡ is_some (next_offer w s d)
    can_offer_test L list =
        ⊎_elim
        (λ yes. ap (λ b. not b && ltb (get_or s.spent d 0) (length L)) yes ∙ sym (ap is_some (next_none n C w s places law desk d doctor (ap is_some (sym (desk.place d doctor)) ∙ yes))))
        (λ free. ap (λ b. not b && ltb (get_or s.spent d 0) (length L)) free ∙ ⊎_elim
        (λ lt. lt-ltb (get_or s.spent d 0) (length L) lt ∙ sym (ap is_some (next_some n C w s places law desk d doctor free L list lt)))
        (λ le. le-ltb (get_or s.spent d 0) (length L) le ∙ sym (ap is_some (past n C w s places law desk d doctor free L list le)))
        (cases_lt (get_or s.spent d 0) (length L)))
        (cases_Bool (is_some (get_or places d None)))

    pub can_offer_read : (P : List (Option ℕ)) (spent L : List ℕ) (b : Bool) → P ≡ places → spent ≡ s.spent → L ≡ list_of w d
        → b ≡ (not (is_some (get_or P d None)) && ltb (get_or spent d 0) (length L)) → b ≡ is_some (next_offer w s d)
    can_offer_read P spent L b p q list e =
        e ∙ ap (λ Q. not (is_some (get_or Q d None)) && ltb (get_or spent d 0) (length L)) p
        ∙ ap (λ S. not (is_some (get_or places d None)) && ltb (get_or S d 0) (length L)) q ∙ can_offer_test L list

    -- he can't offer, or offers the next of his list
    cases_next : (next_offer w s d ≡ None) ⊎ ((is_some (get_or places d None) ≡ false) × (get_or s.spent d 0 < length (list_of w d)))
    cases_next =
        ⊎_elim
        (λ yes. inl (next_none n C w s places law desk d doctor (ap is_some (sym (desk.place d doctor)) ∙ yes)))
        (λ no. ⊎_elim
        (λ lt. inr (no, lt))
        (λ le. inl (past n C w s places law desk d doctor no (list_of w d) refl le))
        (cases_lt (get_or s.spent d 0) (length (list_of w d))))
        (cases_Bool (is_some (get_or places d None)))

    quiet : (o : Option ℕ) (b : Bool) → o ≡ None → going_on w.owners d (turn_from C s o b) ≡ None
    quiet None true e = refl
    quiet None false e = refl
    quiet (Some x) b e = absurd (not_both true refl (ap is_some e))

    quiet_put_out : (o : Option ℕ) (b : Bool) → o ≡ None → put_out (turn_from C s o b) ≡ None
    quiet_put_out None true e = refl
    quiet_put_out None false e = refl
    quiet_put_out (Some x) b e = absurd (not_both true refl (ap is_some e))

    module _ (none : next_offer w s d ≡ None) where
      quiet_state : after_turn C w s d ≡ s
      quiet_state = ap (after_offer C s d) none

      quiet_goes : Settles C w None d s s
      quiet_goes = record { reached = ([], refl); settled = λ e ne h. ⊎_elim (λ same. subst (λ f. next_offer w s f ≡ None) (sym same) none) (λ k. k) h }

      quiet_settles : Settles C w (going_on w.owners d (turn_of C w s d)) d s (after_turn C w s d)
      quiet_settles =
          subst (λ q. Settles C w q d s (after_turn C w s d)) (sym (quiet (next_offer w s d) (is_placed w s d) none))
          (subst (Settles C w None d s) (sym quiet_state) quiet_goes)

    module _ (free : is_some (get_or places d None) ≡ false) (lt : get_or s.spent d 0 < length (list_of w d)) where
      offer_next : next_offer w s d ≡ Some (get_or (list_of w d) (get_or s.spent d 0) 0)
      offer_next = next_some n C w s places law desk d doctor free (list_of w d) refl lt

      offer_new : has (get_or (list_of w d) (get_or s.spent d 0) 0) s.held ≡ false
      offer_new = offered_new n C w s places law desk d doctor free (list_of w d) refl lt

      offer_own : owner w (get_or (list_of w d) (get_or s.spent d 0) 0) ≡ d
      offer_own = own n C w s places law desk d doctor free (list_of w d) refl lt

      offer_after : after_turn C w s d ≡ offered C s d (get_or (list_of w d) (get_or s.spent d 0) 0)
      offer_after = ap (after_offer C s d) offer_next

      offer_outcome : IsOutcome s.held (get_or (list_of w d) (get_or s.spent d 0) 0) (C (with_one s.held (get_or (list_of w d) (get_or s.spent d 0) 0))) (outcome_of s.held (get_or (list_of w d) (get_or s.spent d 0) 0) (C (with_one s.held (get_or (list_of w d) (get_or s.spent d 0) 0))))
      offer_outcome =
          let m = desk_lawful n C w s places law desk in
          let below = offered_below n C w s places law desk d doctor free (list_of w d) refl lt in
          let contracts = desk.wishes.contracts in
          outcome_is (length w.owners) C s.held (get_or (list_of w d) (get_or s.spent d 0) 0) m.choice (held_set n C w s places law desk) (omega (arith, below, contracts)) (held_own n C w s places law desk) offer_new

      offer_turn_of : turn_of C w s d ≡ turns.Moved (get_or (list_of w d) (get_or s.spent d 0) 0) (outcome_of s.held (get_or (list_of w d) (get_or s.spent d 0) 0) (C (with_one s.held (get_or (list_of w d) (get_or s.spent d 0) 0))))
      offer_turn_of = moved_turn C s (next_offer w s d) (is_placed w s d) (get_or (list_of w d) (get_or s.spent d 0) 0) offer_next

      offer_reached : Leads C w s (offered C s d (get_or (list_of w d) (get_or s.spent d 0) 0))
      offer_reached = (d ∷ [], sym offer_after)

      -- another doctor, whose held contract stays held
      others : (e : ℕ) → (e ≡ d → ⊥) → ((y : ℕ) → IsIn y s.held → owner w y ≡ e → IsIn y (C (with_one s.held (get_or (list_of w d) (get_or s.spent d 0) 0)))) → next_offer w s e ≡ None → next_offer w (offered C s d (get_or (list_of w d) (get_or s.spent d 0) 0)) e ≡ None
      others e ne keeps none =
          still_settled w s (offered C s d (get_or (list_of w d) (get_or s.spent d 0) 0)) e (get_or-set_other s.spent d e (get_or s.spent d 0 + 1) 0 ne)
          (λ yes. let h = from_placed w e s.held yes in placed_from w e (C (with_one s.held (get_or (list_of w d) (get_or s.spent d 0) 0))) h.0 (keeps h.0 h.1 h.2) h.2)
          none

      can_offer_not : (e : ℕ) → next_offer w s e ≡ None → e ≡ d → ⊥
      can_offer_not e none same = not_both true refl (sym (ap is_some (sym none ∙ ap (next_offer w s) same ∙ offer_next)))

      held_now : IsIn (get_or (list_of w d) (get_or s.spent d 0) 0) (C (with_one s.held (get_or (list_of w d) (get_or s.spent d 0) 0))) → next_offer w (offered C s d (get_or (list_of w d) (get_or s.spent d 0) 0)) d ≡ None
      held_now i = cond-true (is_placed w (offered C s d (get_or (list_of w d) (get_or s.spent d 0) 0)) d) None (slice_get (list_of w d) (get_or (set s.spent d (get_or s.spent d 0 + 1)) d 0)) (placed_from w d (C (with_one s.held (get_or (list_of w d) (get_or s.spent d 0) 0))) (get_or (list_of w d) (get_or s.spent d 0) 0) i offer_own)

      offer_goes : (o : Outcome) → IsOutcome s.held (get_or (list_of w d) (get_or s.spent d 0) 0) (C (with_one s.held (get_or (list_of w d) (get_or s.spent d 0) 0))) o → Settles C w (going_on w.owners d (turns.Moved (get_or (list_of w d) (get_or s.spent d 0) 0) o)) d s (offered C s d (get_or (list_of w d) (get_or s.spent d 0) 0))
      offer_goes out.Kept is = record {
        reached = offer_reached;
        settled = λ e ne h. ⊎_elim
            (λ same. subst (λ f. next_offer w (offered C s d (get_or (list_of w d) (get_or s.spent d 0) 0)) f ≡ None) (sym same) (held_now (subst (IsIn (get_or (list_of w d) (get_or s.spent d 0) 0)) (sym is) (IsIn-with_one_new s.held (get_or (list_of w d) (get_or s.spent d 0) 0)))))
            (λ none. others e (can_offer_not e none) (λ y i o. subst (IsIn y) (sym is) (IsIn-with_one_old s.held (get_or (list_of w d) (get_or s.spent d 0) 0) y i)) none)
            h;
      }
      offer_goes out.Refused is = record {
        reached = offer_reached;
        settled = λ e ne h. ⊎_elim
            (λ same. absurd (ne (ap Some same)))
            (λ none. others e (can_offer_not e none) (λ y i o. subst (IsIn y) (sym is) i) none)
            h;
      }
      offer_goes (out.Swapped z) is =
          let kept : (y : ℕ) → (y ≡ z → ⊥) → IsIn y (with_one s.held (get_or (list_of w d) (get_or s.spent d 0) 0)) → IsIn y (C (with_one s.held (get_or (list_of w d) (get_or s.spent d 0) 0))) = λ y ne i. subst (IsIn y) (sym is.1) (IsIn-without (with_one s.held (get_or (list_of w d) (get_or s.spent d 0) 0)) z y i ne) in
          record {
            reached = offer_reached;
            settled = λ e ne h. ⊎_elim
                (λ same. subst (λ f. next_offer w (offered C s d (get_or (list_of w d) (get_or s.spent d 0) 0)) f ≡ None) (sym same)
                (held_now (kept (get_or (list_of w d) (get_or s.spent d 0) 0) (λ f. not_both (has (get_or (list_of w d) (get_or s.spent d 0) 0) s.held) (subst (λ y. IsIn y s.held) (sym f) is.0) offer_new) (IsIn-with_one_new s.held (get_or (list_of w d) (get_or s.spent d 0) 0)))))
                (λ none. others e (can_offer_not e none) (λ y i o. kept y (λ f. ne (ap Some (sym o ∙ ap (owner w) f))) (IsIn-with_one_old s.held (get_or (list_of w d) (get_or s.spent d 0) 0) y i)) none)
                h;
          }

      offer_settles : Settles C w (going_on w.owners d (turn_of C w s d)) d s (after_turn C w s d)
      offer_settles =
          subst (λ u. Settles C w (going_on w.owners d u) d s (after_turn C w s d)) (sym offer_turn_of)
          (subst (Settles C w (going_on w.owners d (turns.Moved (get_or (list_of w d) (get_or s.spent d 0) 0) (outcome_of s.held (get_or (list_of w d) (get_or s.spent d 0) 0) (C (with_one s.held (get_or (list_of w d) (get_or s.spent d 0) 0)))))) d s) (sym offer_after)
          (offer_goes (outcome_of s.held (get_or (list_of w d) (get_or s.spent d 0) 0) (C (with_one s.held (get_or (list_of w d) (get_or s.spent d 0) 0)))) offer_outcome))

      offer_doctor : (o : Outcome) → IsOutcome s.held (get_or (list_of w d) (get_or s.spent d 0) 0) (C (with_one s.held (get_or (list_of w d) (get_or s.spent d 0) 0))) o → IfSome (going_on w.owners d (turns.Moved (get_or (list_of w d) (get_or s.spent d 0) 0) o)) (λ e. e < length w.listed)
      offer_doctor out.Kept is = tt
      offer_doctor out.Refused is = doctor
      offer_doctor (out.Swapped z) is = desk.wishes.owners z (let b = held_below n C w s places law desk z is.0 in let c = desk.wishes.contracts in omega (arith, b, c))

      offer_put_out : (o : Outcome) → IsOutcome s.held (get_or (list_of w d) (get_or s.spent d 0) 0) (C (with_one s.held (get_or (list_of w d) (get_or s.spent d 0) 0))) o → IfSome (put_out (turns.Moved (get_or (list_of w d) (get_or s.spent d 0) 0) o)) (λ z. z < length w.owners)
      offer_put_out out.Kept is = tt
      offer_put_out out.Refused is = tt
      offer_put_out (out.Swapped z) is = held_below n C w s places law desk z is.0

    -- d's turn settles him and all who were settled, but for the one who is to go on
    pub turn_settles : Settles C w (going_on w.owners d (turn_of C w s d)) d s (after_turn C w s d)
    turn_settles = ⊎_elim quiet_settles (λ h. offer_settles h.0 h.1) cases_next

    pub turn_doctor : IfSome (going_on w.owners d (turn_of C w s d)) (λ e. e < length w.listed)
    turn_doctor =
        ⊎_elim
        (λ none. subst (λ q. IfSome q (λ e. e < length w.listed)) (sym (quiet (next_offer w s d) (is_placed w s d) none)) tt)
        (λ h. subst (λ u. IfSome (going_on w.owners d u) (λ e. e < length w.listed)) (sym (offer_turn_of h.0 h.1)) (offer_doctor h.0 h.1 (outcome_of s.held (get_or (list_of w d) (get_or s.spent d 0) 0) (C (with_one s.held (get_or (list_of w d) (get_or s.spent d 0) 0)))) (offer_outcome h.0 h.1)))
        cases_next

    turn_put_out : IfSome (put_out (turn_of C w s d)) (λ z. z < length w.owners)
    turn_put_out =
        ⊎_elim
        (λ none. subst (λ q. IfSome q (λ z. z < length w.owners)) (sym (quiet_put_out (next_offer w s d) (is_placed w s d) none)) tt)
        (λ h. subst (λ u. IfSome (put_out u) (λ z. z < length w.owners)) (sym (offer_turn_of h.0 h.1)) (offer_put_out h.0 h.1 (outcome_of s.held (get_or (list_of w d) (get_or s.spent d 0) 0) (C (with_one s.held (get_or (list_of w d) (get_or s.spent d 0) 0)))) (offer_outcome h.0 h.1)))
        cases_next

    pub turn_swapped : (y z : ℕ) → turn_of C w s d ≡ turns.Moved y (out.Swapped z) → z < length w.owners
    turn_swapped y z e = subst (λ u. IfSome (put_out u) (λ k. k < length w.owners)) e turn_put_out

    -- each contract is offered once
    pub turn_fewer : left w (after_turn C w s d) + one_if_some (going_on w.owners d (turn_of C w s d)) ≤ left w s
    turn_fewer =
        ⊎_elim
        (λ none. rw (quiet_state none, quiet (next_offer w s d) (is_placed w s d) none) (omega arith))
        (λ h.
        let m = desk_lawful n C w s places law desk in
        let r = desk_reached n C w s places law desk in
        let more = more_offered C w m s d r (ap is_some (offer_next h.0 h.1)) in
        let most = length_below (length w.owners) (offered_so_far w (after_turn C w s d)) (IsSetBelow-offered C w m (after_turn C w s d)) in
        let one = at_most_one (going_on w.owners d (turn_of C w s d)) in
        omega (arith, more, most, one))
        cases_next

    -- the same, as it is read
    module _ (owners : List ℕ) (u : Turn) (r : Option ℕ) (t : State) (same : owners ≡ w.owners) (is : u ≡ turn_of C w s d) (e : r ≡ going_on owners d u) (after : t ≡ after_turn C w s d) where
      next_is : r ≡ going_on w.owners d (turn_of C w s d)
      next_is = e ∙ ap (λ o. going_on o d u) same ∙ ap (going_on w.owners d) is

      pub read_settles : Settles C w r d s t
      read_settles = subst (λ q. Settles C w q d s t) (sym next_is) (subst (Settles C w (going_on w.owners d (turn_of C w s d)) d s) (sym after) turn_settles)

      pub read_doctor : IfSome r (λ f. f < length w.listed)
      read_doctor = subst (λ q. IfSome q (λ f. f < length w.listed)) (sym next_is) turn_doctor

      pub read_fewer : left w t + one_if_some r ≤ left w s
      read_fewer = subst (λ q. left w t + one_if_some q ≤ left w s) (sym next_is) (subst (λ v. left w v + one_if_some (going_on w.owners d (turn_of C w s d)) ≤ left w s) (sym after) turn_fewer)

  -- ---- closed desks

  -- where each doctor is settled, the desk is closed
  pub all_settled : (t : State) → ((d : ℕ) → d < length w.listed → next_offer w t d ≡ None) → IsClosed C w t
  all_settled t none = nobody_closed C w (desk_lawful n C w s places law desk) t (λ d i. none d (below-all_below (length w.listed) (λ _. true) d i).0)

  -- nobody was found who can offer
  pub closed_test : IsClosed C w s → true ≡ true ↔ IsClosed C w s
  closed_test closed = (λ _. closed, λ _. refl)

  pub not_closed : (d : ℕ) → is_some (next_offer w s d) ≡ true → IsClosed C w s → ⊥
  not_closed d some closed = not_both (is_some (next_offer w s d)) some (ap is_some (closed_cannot C w (desk_lawful n C w s places law desk) s (desk_reached n C w s places law desk) closed d))

  pub open_test : (d : ℕ) → is_some (next_offer w s d) ≡ true → false ≡ true ↔ IsClosed C w s
  open_test d some = (λ e. absurd (not_both true refl (sym e)), λ closed. absurd (not_closed d some closed))

  runs_well : RunsWell C w
  runs_well = (every_choice n C w law desk.wishes).0

  pub held_is_chosen : s.held ≡ C (offered_so_far w s)
  held_is_chosen = (desk_reached n C w s places law desk).held

  pub refused_nowhere : (x : ℕ) (T : List ℕ) → IsIn x (offered_so_far w s) → ¬ IsIn x s.held → IsStable (Takes C) w T → ¬ IsIn x T
  refused_nowhere x T i out = runs_well.refused desk.reached.0 x T (subst (λ t. IsIn x (offered_so_far w t)) desk.reached.1 i) (λ j. out (subst (λ t. IsIn x t.held) (sym desk.reached.1) j))

  pub closed_optimal : IsClosed C w s → IsOnlyOptimal (Takes C) w s.held
  closed_optimal closed = subst (λ t. IsOnlyOptimal (Takes C) w t.held) (sym desk.reached.1) (runs_well.closed desk.reached.0 (subst (IsClosed C w) desk.reached.1 closed))

  -- the same later on
  module _ (t : State) (ds : List ℕ) (run_to : t ≡ run C w s ds) (D : List ℕ → List ℕ) (v : Wishes) (same_choice : D ≡ C) (same_wishes : v ≡ w) where
    pub closed_later : ((d : ℕ) → d < length w.listed → next_offer w t d ≡ None) → IsClosed D v t
    closed_later none = subst (λ F. IsClosed F v t) (sym same_choice) (subst (λ u. IsClosed C u t) (sym same_wishes) (all_settled t none))

    pub optimal_later : ((d : ℕ) → d < length w.listed → next_offer w t d ≡ None) → IsOnlyOptimal (Takes D) v t.held
    optimal_later none =
        let whole : t ≡ run C w (start w) (desk.reached.0 ++ ds) = run_on C w desk.reached.0 ds (start w) s t desk.reached.1 run_to in
        subst (λ F. IsOnlyOptimal (Takes F) v t.held) (sym same_choice) (subst (λ u. IsOnlyOptimal (Takes C) u t.held) (sym same_wishes)
        (subst (λ u. IsOnlyOptimal (Takes C) w u.held) (sym whole) (runs_well.closed (desk.reached.0 ++ ds) (subst (IsClosed C w) whole (all_settled t none)))))

-- ---- a desk as it is told

module _ {H : Type 0} (count : H → ℕ) (chosen : H → List ℕ → List ℕ) (held : H → List ℕ) where
  pub told_desk : (k : DeskTold H) (owners : List ℕ) (listed : List (List ℕ)) (spent : List ℕ) (holder : H) (places : List (Option ℕ)) → record { wishes = wishes owners listed; spent = spent; holder = holder } ≡ k
      → IsDesk (count holder) (chosen holder) (wishes owners listed) (state spent (held holder)) places → IsDesk (count k.holder) (chosen k.holder) k.wishes (desk_state held k) places
  told_desk k owners listed spent holder places e desk = subst (λ t. IsDesk (count t.holder) (chosen t.holder) t.wishes (desk_state held t) places) e desk
