-- What a check of a journal keeps, entry by entry.
use Rattle.std.proofs.Common.{◌≡◌, ◌∙◌, ◌==◌, ℕ, ◌+◌, ◌<◌, ◌≤◌, Bool, true, false, List, [], ◌∷◌, length, ◌^◌, get_or, set, drop, replicate, All, not, refl, sym, ap, ap₂, subst, subst₂, arith, Option, Some, None, is_some, eqb-true, true≢false}
use Rattle.std.specs.Prelude.{if◌then◌else◌, slice_get}
use Rattle.std.specs.Option.{option_map_or}
use Rattle.std.proofs.lemmas.List.{drop_more, drop_all, get_or-replicate, length-replicate}
use Rattle.std.proofs.lemmas.List.Elements.{All-get_or}
use Rattle.std.proofs.lemmas.Option.{none-some, slice_get_within, get_or_from_slice_get}
use Rattle.rm_sets.specs.Sets.{has, with_one}
use Rattle.rm_market.specs.Stable.{Wishes, owner, list_of}
use Rattle.rm_market.specs.Machine.{State, start, next_offer, outcome_of, IsOutcome}
use Rattle.rm_market.specs.declared.Outcome.{Outcome}
use Rattle.rm_market.specs.declared.Outcome.TheVariants as out
use Rattle.rm_market.specs.Best.{IsChoice}
use Rattle.rm_market.specs.Laws.{AreWishes}
use Rattle.rm_rounds.specs.Desk.{IsDesk, state, places_after}
use Rattle.rm_rounds.proofs.Turns.{offered_new, spent_below, swapped_below, offer_desk, desk_lawful, desk_reached, outcome_only}
use Rattle.rm_journal_laws.specs.declared.Entry.{Entry}
use Rattle.rm_journal_laws.specs.declared.Check.{Check}
use Rattle.rm_journal_laws.specs.declared.Check.TheVariants as checks
use Rattle.rm_journal_laws.specs.Journal.{after_entry, first_to_offer, is_next, is_true, same_outcome, end_check, check_from, check_of, Says}
use Rattle.rm_journal_laws.proofs.Own.{first_from, closed_first}
use Rattle.rm_journal_laws.proofs.Checks.{check_says}
use Rattle.rm_matching_laws.proofs.ClosedRuns.{nobody_closed}
use Rattle.rm_sets.proofs.Sets.{below-all_below}
use Rattle.rm_journal.specs.Doctors.{IsFirst, next_told}

-- who offers x next isn't held, and x stands on his list after those that he has spent
record Offers (listed : List (List ℕ)) (spent : List ℕ) (places : List (Option ℕ)) (d x : ℕ) : Type 0 where
  free : is_some (get_or places d None) ≡ false
  left : get_or spent d 0 < length (get_or listed d [])
  same : get_or (get_or listed d []) (get_or spent d 0) 0 ≡ x

offers : (listed : List (List ℕ)) (spent : List ℕ) (places : List (Option ℕ)) (d x : ℕ) → next_told listed spent places d ≡ Some x → Offers listed spent places d x
offers listed spent places d x e = by (is_some (get_or places d None)) refl e
  where
    by : (c : Bool) → is_some (get_or places d None) ≡ c → (if c then None else slice_get (get_or listed d []) (get_or spent d 0)) ≡ Some x → Offers listed spent places d x
    by true p f = absurd (none-some x f)
    by false p f = record {
      free = p;
      left = slice_get_within (get_or listed d []) (get_or spent d 0) x f;
      same = get_or_from_slice_get (get_or listed d []) (get_or spent d 0) x 0 f;
    }

module _ (n : ℕ) (C : List ℕ → List ℕ) (w : Wishes) (s : State) (places : List (Option ℕ)) (law : IsChoice n C) (desk : IsDesk n C w s places) where
  -- the arrays tell what each doctor offers next
  next_is : (d : ℕ) → d < length w.listed → next_told w.listed s.spent places d ≡ next_offer w s d
  next_is d lt = ap (λ p. if is_some p then None else slice_get (get_or w.listed d []) (get_or s.spent d 0)) (desk.place d lt)

  module _ (d : ℕ) (doctor : d < length w.listed) (x : ℕ) (next : next_told w.listed s.spent places d ≡ Some x) where
    o : Offers w.listed s.spent places d x
    o = offers w.listed s.spent places d x next

    new : has x s.held ≡ false
    new = subst (λ y. has y s.held ≡ false) o.same (offered_new n C w s places law desk d doctor o.free (list_of w d) refl o.left)

    few_spent : get_or s.spent d 0 < n
    few_spent = spent_below n C w s places law desk d doctor o.free (list_of w d) refl o.left

    module _ (held : List ℕ) (told : Outcome) (is : IsOutcome s.held x held told) where
      was : IsOutcome s.held (get_or (list_of w d) (get_or s.spent d 0) 0) held told
      was = subst (λ y. IsOutcome s.held y held told) (sym o.same) is

      put_out_below : (z : ℕ) → told ≡ out.Swapped z → (z < length w.owners) × (owner w z < length w.listed)
      put_out_below z e = swapped_below n C w s places law desk d doctor o.free (list_of w d) refl o.left held told was z e

      told_outcome : told ≡ outcome_of s.held x held
      told_outcome = outcome_only s.held x held told new is

      next_desk : held ≡ C (with_one s.held x) → IsDesk n C w (record { spent = set s.spent d (get_or s.spent d 0 + 1); held = held }) (places_after w.owners places d x told)
      next_desk taken =
          subst (λ y. IsDesk n C w (record { spent = set s.spent d (get_or s.spent d 0 + 1); held = held }) (places_after w.owners places d y told)) o.same
          (offer_desk n C w s places law desk d doctor o.free (list_of w d) refl o.left held (taken ∙ ap (λ y. C (with_one s.held y)) (sym o.same)) told was)

-- ---- nobody has offered

module _ (m k : ℕ) (C : List ℕ → List ℕ) (w : Wishes) (spent : List ℕ) (places : List (Option ℕ)) (held : List ℕ) (count : m ≡ length w.listed) (again : k ≡ length w.listed) (none : held ≡ []) (zeros : spent ≡ replicate m 0) (nones : places ≡ replicate k None) where
  fresh_state : state spent held ≡ start w
  fresh_state = rw (zeros, none, count) refl

  pub fresh_desk : (n : ℕ) → n < 2 ^ 32 → AreWishes n w → IsDesk n C w (state spent held) places
  fresh_desk n few wishes = record {
    few = few;
    wishes = wishes;
    reached = ([], fresh_state);
    long = rw nones (length-replicate k None ∙ again);
    place = λ d lt. rw (nones, none) (get_or-replicate k d None None (omega (arith, again, lt)));
  }

  pub fresh_check : (es : List Entry) → check_of C w es ≡ check_from C w 1 (state spent held) es
  unfolding check_of
  fresh_check es = ap (λ s. check_from C w 1 s es) (sym fresh_state)

-- an entry's doctor is one of the doctors
pub doctor_of : (n : ℕ) (w : Wishes) (es : List Entry) (i : ℕ) → AreWishes n w → All (λ e. e.x < length w.owners) es → i < length es → owner w (get_or es i (record { x = 0; outcome = out.Kept })).x < length w.listed
doctor_of n w es i wishes contracts within =
    wishes.owners (get_or es i (record { x = 0; outcome = out.Kept })).x
    (let a = All-get_or (λ (e : Entry). e.x < length w.owners) es i (record { x = 0; outcome = out.Kept }) within contracts in let b = wishes.contracts in omega (arith, a, b))

-- ---- the check so far

module _ (C : List ℕ → List ℕ) (w : Wishes) where
  step_next : (k : ℕ) (s : State) (e : Entry) (es : List Entry) → is_next w s e ≡ false → check_from C w k s (e ∷ es) ≡ checks.NotNext k
  step_next k s e es n = ap (λ c. if not c then checks.NotNext k else (if not (is_true C s e) then checks.WrongAnswer k else check_from C w (k + 1) (after_entry C w s e) es)) n

  step_wrong : (k : ℕ) (s : State) (e : Entry) (es : List Entry) → is_next w s e ≡ true → is_true C s e ≡ false → check_from C w k s (e ∷ es) ≡ checks.WrongAnswer k
  step_wrong k s e es n t =
      ap (λ c. if not c then checks.NotNext k else (if not (is_true C s e) then checks.WrongAnswer k else check_from C w (k + 1) (after_entry C w s e) es)) n
      ∙ ap (λ c. if not c then checks.WrongAnswer k else check_from C w (k + 1) (after_entry C w s e) es) t

  step_good : (k : ℕ) (s : State) (e : Entry) (es : List Entry) → is_next w s e ≡ true → is_true C s e ≡ true → check_from C w k s (e ∷ es) ≡ check_from C w (k + 1) (after_entry C w s e) es
  step_good k s e es n t =
      ap (λ c. if not c then checks.NotNext k else (if not (is_true C s e) then checks.WrongAnswer k else check_from C w (k + 1) (after_entry C w s e) es)) n
      ∙ ap (λ c. if not c then checks.WrongAnswer k else check_from C w (k + 1) (after_entry C w s e) es) t

-- ---- the end

module _ (n : ℕ) (C : List ℕ → List ℕ) (w : Wishes) (s : State) (places : List (Option ℕ)) (law : IsChoice n C) (desk : IsDesk n C w s places) where
  first_found : (o : Option ℕ) → IsFirst (next_told w.listed s.spent places) (length w.listed) o → first_to_offer w s ≡ o
  first_found None none =
      let m = desk_lawful n C w s places law desk in
      closed_first C w m s (desk_reached n C w s places law desk)
      (nobody_closed C w m s (λ d i. let lt = (below-all_below (length w.listed) (λ _. true) d i).0 in sym (next_is n C w s places law desk d lt) ∙ none d lt))
  first_found (Some d) f =
      first_from C w (desk_lawful n C w s places law desk) s d
      (record {
        doctor = f.0;
        can = subst (λ p. is_some p ≡ true) (next_is n C w s places law desk d f.0) f.1;
        least = λ e lt. sym (next_is n C w s places law desk e (let a = f.0 in omega (arith, a, lt))) ∙ f.2 e lt;
      })

  says_it : (es : List Entry) (c : Check) → c ≡ check_of C w es → Says C w es c
  says_it es c e = check_says C w (desk_lawful n C w s places law desk) es c e

-- whoever is told to offer x next offers it
next_some : (o : Option ℕ) (x : ℕ) → option_map_or (λ y. y == x) o false ≡ true → o ≡ Some x
next_some None x e = absurd (true≢false (sym e))
next_some (Some y) x e = ap Some (eqb-true y x e)

-- ---- one entry, with the choice told by an equal

module _ (n : ℕ) (C D : List ℕ → List ℕ) (w : Wishes) (s : State) (places : List (Option ℕ)) (law : IsChoice n D) (desk : IsDesk n D w s places) (same : D ≡ C) (es : List Entry) (i : ℕ) (within : i < length es) (so_far : check_of C w es ≡ check_from C w (i + 1) s (drop i es)) where
  abbrev e : Entry
  e = get_or es i (record { x = 0; outcome = out.Kept })

  so_far_here : check_of C w es ≡ check_from C w (i + 1) s (e ∷ drop (i + 1) es)
  so_far_here = so_far ∙ ap (check_from C w (i + 1) s) (drop_more es i (record { x = 0; outcome = out.Kept }) within)

  says_here : (c : Check) → c ≡ check_of C w es → Says C w es c
  says_here c is = subst (λ F. Says F w es c) same (says_it n D w s places law desk es c (is ∙ ap (λ F. check_of F w es) (sym same)))

  module _ (doctor : owner w e.x < length w.listed) (counts : List ℕ) (noted : List (Option ℕ)) (same_counts : counts ≡ s.spent) (same_places : noted ≡ places) (told : Bool) (read : told ≡ option_map_or (λ y. y == e.x) (next_told w.listed counts noted (owner w e.x)) false) where
    tells : told ≡ option_map_or (λ y. y == e.x) (next_told w.listed s.spent places (owner w e.x)) false
    tells = read ∙ ap₂ (λ k p. option_map_or (λ y. y == e.x) (next_told w.listed k p (owner w e.x)) false) same_counts same_places

    tested : told ≡ is_next w s e
    tested = tells ∙ ap (λ o. option_map_or (λ y. y == e.x) o false) (next_is n D w s places law desk (owner w e.x) doctor)

    pub says_next : told ≡ false → Says C w es (checks.NotNext (i + 1))
    says_next f = says_here (checks.NotNext (i + 1)) (sym (so_far_here ∙ step_next C w (i + 1) s e (drop (i + 1) es) (sym tested ∙ f)))

    module _ (yes : told ≡ true) where
      next_here : next_told w.listed s.spent places (owner w e.x) ≡ Some e.x
      next_here = next_some (next_told w.listed s.spent places (owner w e.x)) e.x (sym tells ∙ yes)

      pub new_here : has e.x s.held ≡ false
      new_here = new n D w s places law desk (owner w e.x) doctor e.x next_here

      pub few_here : get_or s.spent (owner w e.x) 0 < n
      few_here = few_spent n D w s places law desk (owner w e.x) doctor e.x next_here

      module _ (held : List ℕ) (outcome : Outcome) (taken : held ≡ D (with_one s.held e.x)) (is : IsOutcome s.held e.x held outcome) where
        pub put_out_here : (z : ℕ) → outcome ≡ out.Swapped z → (z < length w.owners) × (owner w z < length w.listed)
        put_out_here = put_out_below n D w s places law desk (owner w e.x) doctor e.x next_here held outcome is

        pub desk_here : IsDesk n D w (state (set s.spent (owner w e.x) (get_or s.spent (owner w e.x) 0 + 1)) held) (places_after w.owners places (owner w e.x) e.x outcome)
        desk_here = next_desk n D w s places law desk (owner w e.x) doctor e.x next_here held outcome is taken

        true_is : same_outcome e.outcome outcome ≡ is_true C s e
        true_is =
            ap (same_outcome e.outcome)
            (told_outcome n D w s places law desk (owner w e.x) doctor e.x next_here held outcome is ∙ ap (outcome_of s.held e.x) (taken ∙ ap (λ F. F (with_one s.held e.x)) same))

        pub says_wrong : same_outcome e.outcome outcome ≡ false → Says C w es (checks.WrongAnswer (i + 1))
        says_wrong f = says_here (checks.WrongAnswer (i + 1)) (sym (so_far_here ∙ step_wrong C w (i + 1) s e (drop (i + 1) es) (sym tested ∙ yes) (sym true_is ∙ f)))

        pub check_more : same_outcome e.outcome outcome ≡ true
            → check_of C w es ≡ check_from C w (i + 1 + 1) (state (set s.spent (owner w e.x) (get_or s.spent (owner w e.x) 0 + 1)) held) (drop (i + 1) es)
        check_more good =
            so_far_here ∙ step_good C w (i + 1) s e (drop (i + 1) es) (sym tested ∙ yes) (sym true_is ∙ good)
            ∙ ap (λ H. check_from C w (i + 1 + 1) (state (set s.spent (owner w e.x) (get_or s.spent (owner w e.x) 0 + 1)) H) (drop (i + 1) es))
            (ap (λ F. F (with_one s.held e.x)) (sym same) ∙ sym taken)

-- ---- after the last entry

module _ (n : ℕ) (C D : List ℕ → List ℕ) (w : Wishes) (s : State) (places : List (Option ℕ)) (law : IsChoice n D) (desk : IsDesk n D w s places) (same : D ≡ C) (es : List Entry) (i : ℕ) (past : length es ≤ i) (so_far : check_of C w es ≡ check_from C w (i + 1) s (drop i es)) where
  pub says_end : (counts : List ℕ) (noted : List (Option ℕ)) → counts ≡ s.spent → noted ≡ places → (o : Option ℕ) → IsFirst (next_told w.listed counts noted) (length w.listed) o → Says C w es (end_check o)
  says_end counts noted same_counts same_places o found =
      let first = subst₂ (λ k p. IsFirst (next_told w.listed k p) (length w.listed) o) same_counts same_places found in
      let ended : check_of C w es ≡ end_check o = so_far ∙ ap (check_from C w (i + 1) s) (drop_all i es past) ∙ ap end_check (first_found n D w s places law desk o first) in
      subst (λ F. Says F w es (end_check o)) same (says_it n D w s places law desk es (end_check o) (sym ended ∙ ap (λ F. check_of F w es) (sym same)))
