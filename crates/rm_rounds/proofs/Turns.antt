-- What a doctor's turn does to the desk.
use Rattle.std.proofs.Common.{◌≡◌, ℕ, ◌+◌, ◌<◌, ◌≤◌, List, [], ◌∷◌, ◌++◌, Bool, true, false, not, ◌⊎◌, length, get_or, set, find, refl, sym, ap, ◌∙◌, subst, ⊎_elim, arith, Option, Some, None, is_some, length-set, get_or-set_same, get_or-set_other}
use Rattle.std.proofs.lemmas.Bool.{cond-true, cond-false, cases_eq, not_from_true, not_from_false, not-true}
use Rattle.std.proofs.lemmas.Option.{slice_get-get_or, slice_get_past}
use Rattle.std.proofs.lemmas.Map.Steps.{length-le_from_distinct_below}
use Rattle.std.specs.Prelude.{slice_get}
use Rattle.rm_sets.specs.Sets.{has, IsIn, IsSetBelow, with_one}
use Rattle.rm_sets.proofs.Sets.{IsIn-here, IsIn-later, not_both, IsIn-with_one_cases}
use Rattle.rm_sets.proofs.Members.{IsIn-get_or, not_in_from, IsIn-with_one_old, IsIn-with_one_new, IsIn-without, IsIn-from_without, not_in_without}
use Rattle.rm_market.specs.Best.{IsChoice}
use Rattle.rm_market.specs.Stable.{Wishes, owner, list_of, at}
use Rattle.rm_market.specs.Machine.{State, start, is_placed, next_offer, after_offer, after_turn, IsOutcome, outcome_from, outcome_of, turn_from, turn_of, offered_so_far}
use Rattle.rm_market.specs.declared.Outcome.{Outcome}
use Rattle.rm_market.specs.declared.Outcome.TheVariants as out
use Rattle.rm_market.specs.declared.Turn.TheVariants as turns
use Rattle.rm_matching_laws.proofs.PathIndependence.{IsSetBelow-chosen, chosen-chosen}
use Rattle.rm_matching_laws.proofs.Places.{find_some, find_none, IsSingle, contract_is, contract_is_none, cases_contract, none_from_not_placed}
use Rattle.rm_matching_laws.proofs.Stable.{AreLawful}
use Rattle.rm_matching_laws.proofs.Runs.{IsReached, IsReached-after, IsReached-turn, IsSetBelow-offered}
use Rattle.rm_matching_laws.proofs.ClosedRuns.{run-append}
use Rattle.rm_matching_laws.proofs.EveryChoice.{lawful}
use Rattle.rm_rounds.specs.Desk.{IsDesk, places_after}

-- ---- the outcome is told by what was held before and after

find_nothing : (p : ℕ → Bool) (S : List ℕ) → ((x : ℕ) → IsIn x S → p x ≡ false) → find p S ≡ None
find_nothing p [] none = refl
find_nothing p (y ∷ S) none = cond-false (p y) (Some y) (find p S) (none y (IsIn-here y S)) ∙ find_nothing p S (λ x i. none x (IsIn-later x y S i))

find_only : (p : ℕ → Bool) (S : List ℕ) (z : ℕ) → IsIn z S → p z ≡ true → ((x : ℕ) → IsIn x S → p x ≡ true → x ≡ z) → find p S ≡ Some z
find_only p S z i passes only = by (find p S) refl
  where
    by : (o : Option ℕ) → find p S ≡ o → o ≡ Some z
    by None e = absurd (not_both (p z) passes (find_none p S e z i))
    by (Some x) e = let f = find_some p S x e in ap Some (only x f.0 f.1)

outcome_kept : (H : List ℕ) (x : ℕ) (new : List ℕ) (o : Option ℕ) → has x new ≡ true → find (λ z. not (has z new)) H ≡ o → outcome_of H x new ≡ outcome_from o
outcome_kept H x new o there e = cond-true (has x new) (outcome_from (find (λ z. not (has z new)) H)) out.Refused there ∙ ap outcome_from e

pub outcome_only : (H : List ℕ) (x : ℕ) (new : List ℕ) (o : Outcome) → has x H ≡ false → IsOutcome H x new o → o ≡ outcome_of H x new
outcome_only H x new out.Kept fresh e =
    sym (outcome_kept H x new None (subst (IsIn x) (sym e) (IsIn-with_one_new H x))
    (find_nothing (λ z. not (has z new)) H (λ z i. not_from_true (has z new) (subst (IsIn z) (sym e) (IsIn-with_one_old H x z i)))))
outcome_only H x new out.Refused fresh e =
    sym (cond-false (has x new) (outcome_from (find (λ z. not (has z new)) H)) out.Refused (subst (λ S. has x S ≡ false) (sym e) fresh))
outcome_only H x new (out.Swapped z) fresh e =
    let apart : x ≡ z → ⊥ = λ same. not_both (has x H) (subst (λ y. IsIn y H) (sym same) e.0) fresh in
    sym (outcome_kept H x new (Some z)
    (subst (IsIn x) (sym e.1) (IsIn-without (with_one H x) z x (IsIn-with_one_new H x) apart))
    (find_only (λ y. not (has y new)) H z e.0
    (not_from_false (has z new) (subst (λ S. has z S ≡ false) (sym e.1) (not_in_without (with_one H x) z)))
    (λ y i gone. ⊎_elim
    (λ same. same)
    (λ ne. absurd (not_both (has y new) (subst (IsIn y) (sym e.1) (IsIn-without (with_one H x) z y (IsIn-with_one_old H x y i) ne)) (not-true (has y new) gone)))
    (cases_eq y z))))

-- ---- the variants are apart

is_swapped : Outcome → Bool
is_swapped out.Kept = false
is_swapped out.Refused = false
is_swapped (out.Swapped z) = true

put_out : Outcome → ℕ
put_out out.Kept = 0
put_out out.Refused = 0
put_out (out.Swapped z) = z

kept_apart : (z : ℕ) → out.Kept ≡ out.Swapped z → ⊥
unfolding is_swapped
kept_apart z e = not_both true refl (sym (ap is_swapped e))

refused_apart : (z : ℕ) → out.Refused ≡ out.Swapped z → ⊥
unfolding is_swapped
refused_apart z e = not_both true refl (sym (ap is_swapped e))

swapped_same : (y z : ℕ) → out.Swapped y ≡ out.Swapped z → y ≡ z
unfolding put_out
swapped_same y z e = ap put_out e

-- ---- turns by what is next

idle_turn : (C : List ℕ → List ℕ) (s : State) (o : Option ℕ) (b : Bool) → o ≡ None → b ≡ true → turn_from C s o b ≡ turns.Idle
idle_turn C s o b e f = rw (e, f) refl

done_turn : (C : List ℕ → List ℕ) (s : State) (o : Option ℕ) (b : Bool) → o ≡ None → b ≡ false → turn_from C s o b ≡ turns.Done
done_turn C s o b e f = rw (e, f) refl

pub moved_turn : (C : List ℕ → List ℕ) (s : State) (o : Option ℕ) (b : Bool) (x : ℕ) → o ≡ Some x → turn_from C s o b ≡ turns.Moved x (outcome_of s.held x (C (with_one s.held x)))
moved_turn C s o b x e = rw e refl

-- ---- a doctor's contract in two sets

pub at_same : (w : Wishes) (e : ℕ) (S T : List ℕ) → IsSingle w T → ((y : ℕ) → owner w y ≡ e → IsIn y S → IsIn y T) → ((y : ℕ) → owner w y ≡ e → IsIn y T → IsIn y S) → at w e S ≡ at w e T
at_same w e S T single into back =
    ⊎_elim
    (λ h. h.3 ∙ sym (contract_is w e T h.0 single (into h.0 h.2 h.1) h.2))
    (λ h. h.1 ∙ sym (contract_is_none w e T (λ y i own. h.0 y (back y own i) own)))
    (cases_contract w e S)

-- ---- the desk

module _ (n : ℕ) (C : List ℕ → List ℕ) (w : Wishes) (s : State) (places : List (Option ℕ)) (law : IsChoice n C) (desk : IsDesk n C w s places) where
  pub desk_lawful : AreLawful C w
  desk_lawful = lawful n C w law desk.wishes

  pub desk_reached : IsReached C w s
  desk_reached = subst (IsReached C w) (sym desk.reached.1) (IsReached-after C w desk_lawful desk.reached.0)

  pub held_single : IsSingle w s.held
  held_single = subst (IsSingle w) (sym desk_reached.held) desk_reached.progress.single

  pub held_set : IsSetBelow (length w.owners) s.held
  held_set = subst (IsSetBelow (length w.owners)) (sym desk_reached.held) (IsSetBelow-chosen (length w.owners) C desk_lawful.choice (offered_so_far w s) (IsSetBelow-offered C w desk_lawful s))

  pub held_own : C s.held ≡ s.held
  held_own = ap C desk_reached.held ∙ chosen-chosen (length w.owners) C desk_lawful.choice (offered_so_far w s) (IsSetBelow-offered C w desk_lawful s) ∙ sym desk_reached.held

  pub held_below : (x : ℕ) → IsIn x s.held → x < length w.owners
  held_below = held_set.below

  module _ (d : ℕ) (doctor : d < length w.listed) where
    pub next_none : is_placed w s d ≡ true → next_offer w s d ≡ None
    next_none e = cond-true (is_placed w s d) None (slice_get (list_of w d) (get_or s.spent d 0)) e

    placed : (b : Bool) → is_some (get_or places d None) ≡ b → is_placed w s d ≡ b
    placed b e = ap is_some (sym (desk.place d doctor)) ∙ e

    pub idle_state : is_some (get_or places d None) ≡ true → s ≡ after_turn C w s d
    idle_state e = sym (ap (after_offer C s d) (next_none (placed true e)))

    pub idle : is_some (get_or places d None) ≡ true → turns.Idle ≡ turn_of C w s d
    idle e = sym (idle_turn C s (next_offer w s d) (is_placed w s d) (next_none (placed true e)) (placed true e))

    module _ (free : is_some (get_or places d None) ≡ false) (L : List ℕ) (list : L ≡ list_of w d) where
      next_read : next_offer w s d ≡ slice_get L (get_or s.spent d 0)
      next_read = cond-false (is_placed w s d) None (slice_get (list_of w d) (get_or s.spent d 0)) (placed false free) ∙ ap (λ K. slice_get K (get_or s.spent d 0)) (sym list)

      pub past : length L ≤ get_or s.spent d 0 → next_offer w s d ≡ None
      past le = next_read ∙ slice_get_past L (get_or s.spent d 0) le

      pub done_state : length L ≤ get_or s.spent d 0 → s ≡ after_turn C w s d
      done_state le = sym (ap (after_offer C s d) (past le))

      pub done : length L ≤ get_or s.spent d 0 → turns.Done ≡ turn_of C w s d
      done le = sym (done_turn C s (next_offer w s d) (is_placed w s d) (past le) (placed false free))

      module _ (lt : get_or s.spent d 0 < length L) where
        pub next_some : next_offer w s d ≡ Some (get_or L (get_or s.spent d 0) 0)
        next_some = next_read ∙ slice_get-get_or L (get_or s.spent d 0) 0 lt

        on_list : IsIn (get_or L (get_or s.spent d 0) 0) (list_of w d)
        on_list = subst (IsIn (get_or L (get_or s.spent d 0) 0)) list (IsIn-get_or L (get_or s.spent d 0) 0 lt)

        pub own : owner w (get_or L (get_or s.spent d 0) 0) ≡ d
        own = (desk_lawful.lists d).owned (get_or L (get_or s.spent d 0) 0) on_list

        pub offered_below : get_or L (get_or s.spent d 0) 0 < n
        offered_below = let a = (desk_lawful.lists d).below (get_or L (get_or s.spent d 0) 0) on_list in let b = desk.wishes.contracts in omega (arith, a, b)

        -- he has offered fewer than there are contracts, as his list has distinct ones
        pub spent_below : get_or s.spent d 0 < n
        spent_below =
            let wished = desk.wishes.lists d doctor in
            let most = length-le_from_distinct_below (list_of w d) n wished.distinct (λ x i. let below = wished.below x i in let b = desk.wishes.contracts in omega (arith, below, b)) in
            let long = ap length list in
            omega (arith, lt, most, long)

        pub offered_new : has (get_or L (get_or s.spent d 0) 0) s.held ≡ false
        offered_new = not_in_from (get_or L (get_or s.spent d 0) 0) s.held (λ i. none_from_not_placed w d s.held (placed false free) (get_or L (get_or s.spent d 0) 0) i own)

        pub offer_state : (held : List ℕ) → held ≡ C (with_one s.held (get_or L (get_or s.spent d 0) 0)) → record { spent = set s.spent d (get_or s.spent d 0 + 1); held = held } ≡ after_turn C w s d
        offer_state held e = ap (λ H. record { spent = set s.spent d (get_or s.spent d 0 + 1); held = H }) e ∙ sym (ap (after_offer C s d) next_some)

        pub offer_turn : (held : List ℕ) (o : Outcome) → held ≡ C (with_one s.held (get_or L (get_or s.spent d 0) 0)) → IsOutcome s.held (get_or L (get_or s.spent d 0) 0) held o → turns.Moved (get_or L (get_or s.spent d 0) 0) o ≡ turn_of C w s d
        offer_turn held o e is =
            ap (turns.Moved (get_or L (get_or s.spent d 0) 0)) (outcome_only s.held (get_or L (get_or s.spent d 0) 0) held o offered_new is ∙ ap (outcome_of s.held (get_or L (get_or s.spent d 0) 0)) e)
            ∙ sym (moved_turn C s (next_offer w s d) (is_placed w s d) (get_or L (get_or s.spent d 0) 0) next_some)

        module _ (held : List ℕ) (taken : held ≡ C (with_one s.held (get_or L (get_or s.spent d 0) 0))) where
          new_single : IsSingle w held
          new_single =
              let r : IsReached C w (after_turn C w s d) = IsReached-turn C w desk_lawful s d desk_reached in
              subst (IsSingle w) (sym (ap (λ t. t.held) (offer_state held taken) ∙ r.held)) r.progress.single

          apart : (e y : ℕ) → (e ≡ d → ⊥) → owner w y ≡ e → y ≡ get_or L (get_or s.spent d 0) 0 → ⊥
          apart e y ne has_owner same = ne (sym has_owner ∙ ap (owner w) same ∙ own)

          new_place : (o : Outcome) → IsOutcome s.held (get_or L (get_or s.spent d 0) 0) held o → (e : ℕ) → e < length w.listed → get_or (places_after w.owners places d (get_or L (get_or s.spent d 0) 0) o) e None ≡ at w e held
          new_place out.Kept is e lt2 =
              ⊎_elim
              (λ same. rw same (get_or-set_same places d (Some (get_or L (get_or s.spent d 0) 0)) None (subst (λ k. d < k) (sym desk.long) doctor)
              ∙ sym (contract_is w d held (get_or L (get_or s.spent d 0) 0) new_single (subst (IsIn (get_or L (get_or s.spent d 0) 0)) (sym is) (IsIn-with_one_new s.held (get_or L (get_or s.spent d 0) 0))) own)))
              (λ ne. get_or-set_other places d e (Some (get_or L (get_or s.spent d 0) 0)) None ne
              ∙ desk.place e lt2
              ∙ at_same w e s.held held new_single
              (λ y o i. subst (IsIn y) (sym is) (IsIn-with_one_old s.held (get_or L (get_or s.spent d 0) 0) y i))
              (λ y o i. ⊎_elim (λ j. j) (λ same. absurd (apart e y ne o same)) (IsIn-with_one_cases y s.held (get_or L (get_or s.spent d 0) 0) (subst (IsIn y) is i))))
              (cases_eq e d)
          new_place out.Refused is e lt2 = desk.place e lt2 ∙ ap (at w e) (sym is)
          new_place (out.Swapped z) is e lt2 =
              let x : ℕ = get_or L (get_or s.spent d 0) 0 in
              let long : length (set places (owner w z) None) ≡ length w.listed = length-set places (owner w z) None ∙ desk.long in
              let kept : (y : ℕ) → (y ≡ z → ⊥) → IsIn y s.held → IsIn y held = λ y ne i. subst (IsIn y) (sym is.1) (IsIn-without (with_one s.held x) z y (IsIn-with_one_old s.held x y i) ne) in
              let old : (y : ℕ) → IsIn y held → (IsIn y s.held ⊎ (y ≡ x)) × (y ≡ z → ⊥) = λ y i. let h = IsIn-from_without (with_one s.held x) z y (subst (IsIn y) is.1 i) in (IsIn-with_one_cases y s.held x h.0, h.1) in
              ⊎_elim
              (λ same. rw same (get_or-set_same (set places (owner w z) None) d (Some x) None (subst (λ k. d < k) (sym long) doctor)
              ∙ sym (contract_is w d held x new_single (subst (IsIn x) (sym is.1) (IsIn-without (with_one s.held x) z x (IsIn-with_one_new s.held x) (λ f. not_both (has x s.held) (subst (λ y. IsIn y s.held) (sym f) is.0) offered_new))) own)))
              (λ ne. get_or-set_other (set places (owner w z) None) d e (Some x) None ne
              ∙ ⊎_elim
              (λ f. rw f (get_or-set_same places (owner w z) None None (subst (λ k. owner w z < k) (sym desk.long) (subst (λ k. k < length w.listed) f lt2))
              ∙ sym (contract_is_none w (owner w z) held (λ y i o.
              let h = old y i in
              ⊎_elim (λ j. h.1 (held_single y z j is.0 o)) (λ same. apart e y ne (o ∙ sym f) same) h.0))))
              (λ other. get_or-set_other places (owner w z) e None None other
              ∙ desk.place e lt2
              ∙ at_same w e s.held held new_single
              (λ y o i. kept y (λ same. other (sym o ∙ ap (owner w) same)) i)
              (λ y o i. ⊎_elim (λ j. j) (λ same. absurd (apart e y ne o same)) (old y i).0))
              (cases_eq e (owner w z)))
              (cases_eq e d)

          new_long : (o : Outcome) → length (places_after w.owners places d (get_or L (get_or s.spent d 0) 0) o) ≡ length w.listed
          new_long out.Kept = length-set places d (Some (get_or L (get_or s.spent d 0) 0)) ∙ desk.long
          new_long out.Refused = desk.long
          new_long (out.Swapped z) = length-set (set places (owner w z) None) d (Some (get_or L (get_or s.spent d 0) 0)) ∙ length-set places (owner w z) None ∙ desk.long

          pub offer_desk : (o : Outcome) → IsOutcome s.held (get_or L (get_or s.spent d 0) 0) held o → IsDesk n C w (record { spent = set s.spent d (get_or s.spent d 0 + 1); held = held }) (places_after w.owners places d (get_or L (get_or s.spent d 0) 0) o)
          offer_desk o is = record {
            few = desk.few;
            wishes = desk.wishes;
            reached = (desk.reached.0 ++ d ∷ [], offer_state held taken ∙ ap (λ t. after_turn C w t d) desk.reached.1 ∙ sym (run-append C w desk_lawful desk.reached.0 (d ∷ []) (start w)));
            long = new_long o;
            place = new_place o is;
          }

        pub swapped_below : (held : List ℕ) (o : Outcome) → IsOutcome s.held (get_or L (get_or s.spent d 0) 0) held o → (z : ℕ) → o ≡ out.Swapped z → (z < length w.owners) × (owner w z < length w.listed)
        swapped_below held out.Kept is z e = absurd (kept_apart z e)
        swapped_below held out.Refused is z e = absurd (refused_apart z e)
        swapped_below held (out.Swapped y) is z e =
            let lt3 : z < length w.owners = subst (λ k. k < length w.owners) (swapped_same y z e) (held_below y is.0) in
            (lt3, desk.wishes.owners z (let c = desk.wishes.contracts in omega (arith, lt3, c)))

-- the same desk, told by equals
pub same_desk : (n m : ℕ) (C D : List ℕ → List ℕ) (w : Wishes) (s t : State) (p q : List (Option ℕ)) → m ≡ n → D ≡ C → t ≡ s → q ≡ p → IsDesk n C w s p → IsDesk m D w t q
same_desk n m C D w s t p q e f h g desk = subst (λ k. IsDesk k D w t q) (sym e) (subst (λ F. IsDesk n F w t q) (sym f) (subst (λ u. IsDesk n C w u q) (sym h) (subst (IsDesk n C w s) (sym g) desk)))
