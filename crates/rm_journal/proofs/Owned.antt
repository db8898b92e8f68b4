-- The own journal, entry by entry.
use Rattle.std.proofs.Common.{◌≡◌, ◌≢◌, ◌∙◌, ℕ, ◌+◌, ◌<◌, ◌≤◌, ◌^◌, Bool, true, false, List, [], ◌∷◌, ◌++◌, length, map, get_or, All, refl, sym, ap, ap₂, subst, inl, inr, ⊎_elim, arith, Option, Some, None, is_some}
use Rattle.std.specs.Prelude.{if◌then◌else◌, nat_le, IfSome}
use Rattle.std.proofs.lemmas.Bool.{cases_eq, le-leb, leb-true}
use Rattle.std.proofs.lemmas.List.{get_or-map, length-map}
use Rattle.std.proofs.lemmas.List.Elements.{All-cons, All-nil}
use Rattle.std.proofs.lemmas.Option.{none-some, same_Some}
use Rattle.rm_sets.specs.Sets.{IsSetBelow, below, with_one}
use Rattle.rm_sets.proofs.Once.{length-below, get_or-below}
use Rattle.rm_sets.proofs.Sets.{below-all_below}
use Rattle.rm_market.specs.Best.{IsChoice}
use Rattle.rm_market.specs.Laws.{AreWishes}
use Rattle.rm_market.specs.Machine.{State, start, next_offer, after_offer, after_turn, IsOutcome, offered_so_far, outcome_of, turn_from, turn_of, IsClosed}
use Rattle.rm_market.specs.Stable.{Wishes, at, owner}
use Rattle.rm_market.specs.declared.Outcome.{Outcome}
use Rattle.rm_market.specs.declared.Outcome.TheVariants as out
use Rattle.rm_market.specs.declared.Turn.{Turn}
use Rattle.rm_market.specs.declared.Turn.TheVariants as turns
use Rattle.rm_matching_laws.proofs.ClosedRuns.{nobody_closed}
use Rattle.rm_matching_laws.proofs.EveryChoice.{lawful}
use Rattle.rm_matching_laws.proofs.PathIndependence.{IsSetBelow-chosen}
use Rattle.rm_matching_laws.proofs.Runs.{IsReached, IsReached-start, IsSetBelow-offered}
use Rattle.rm_matching_laws.proofs.Stable.{AreLawful}
use Rattle.rm_rounds.specs.Desk.{IsDesk, going_on, left, one_if_some}
use Rattle.rm_rounds.proofs.Closing.{turn_settles, turn_fewer, turn_swapped}
use Rattle.rm_journal_laws.specs.declared.Entry.{Entry}
use Rattle.rm_journal_laws.specs.Journal.{after_entry, after_entries, AreGood, AreInOrder, IsOwnJournal, IsTrueOf, NamesBelow, first_to_offer}
use Rattle.rm_journal_laws.proofs.Entries.{after_append, doctors, entry, good_append, good_reached, good_run, next_own, turn_own}
use Rattle.rm_journal_laws.proofs.Own.{first_from}
use Rattle.rm_journal_laws.proofs.Steps.{is_offer, outcome_true, reached_offer}
use Rattle.rm_journal.specs.Owned.{IsOwnSoFar, NobodyElse, up_to}

-- ---- what a turn tells

-- a told turn, and the offer of whoever moved
WasOffered : (List ℕ → List ℕ) → State → Option ℕ → Turn → Type 0
WasOffered C s o turns.Idle = o ≡ None
WasOffered C s o turns.Done = o ≡ None
WasOffered C s o (turns.Moved x outcome) = (o ≡ Some x) × (outcome ≡ outcome_of s.held x (C (with_one s.held x)))

was_offered : (C : List ℕ → List ℕ) (s : State) (o : Option ℕ) (b : Bool) → WasOffered C s o (turn_from C s o b)
unfolding WasOffered
was_offered C s (Some x) b = (refl, refl)
was_offered C s None true = refl
was_offered C s None false = refl

moved : (C : List ℕ → List ℕ) (w : Wishes) (s : State) (d x : ℕ) (outcome : Outcome) → turns.Moved x outcome ≡ turn_of C w s d → (next_offer w s d ≡ Some x) × (outcome ≡ outcome_of s.held x (C (with_one s.held x)))
unfolding WasOffered
moved C w s d x outcome e = subst (WasOffered C s (next_offer w s d)) (sym e) (was_offered C s (next_offer w s d) (is_some (at w d s.held)))

idle : (C : List ℕ → List ℕ) (w : Wishes) (s : State) (d : ℕ) → turns.Idle ≡ turn_of C w s d → next_offer w s d ≡ None
unfolding WasOffered
idle C w s d e = subst (WasOffered C s (next_offer w s d)) (sym e) (was_offered C s (next_offer w s d) (is_some (at w d s.held)))

done : (C : List ℕ → List ℕ) (w : Wishes) (s : State) (d : ℕ) → turns.Done ≡ turn_of C w s d → next_offer w s d ≡ None
unfolding WasOffered
done C w s d e = subst (WasOffered C s (next_offer w s d)) (sym e) (was_offered C s (next_offer w s d) (is_some (at w d s.held)))

-- ---- of the doctors up to d

up_to_apart : (d e : ℕ) (o : Option ℕ) → e ≤ d → Some e ≢ up_to d o → Some e ≢ o
up_to_apart d e None le ne = λ f. ne f
up_to_apart d e (Some f) le ne = λ same. ne (same ∙ sym (ap (λ b. if b then Some f else None) (let k = same_Some e f same in le-leb f d (omega (arith, k, le)))))

pub up_to_last : (d : ℕ) (o : Option ℕ) → IfSome (up_to d o) (λ f. f ≤ d)
up_to_last d None = tt
up_to_last d (Some f) = by (nat_le f d) refl
  where
    by : (b : Bool) → nat_le f d ≡ b → IfSome (if b then Some f else None) (λ k. k ≤ d)
    by true e = leb-true f d e
    by false e = tt

up_to_fewer : (d : ℕ) (o : Option ℕ) → one_if_some (up_to d o) ≤ one_if_some o
up_to_fewer d None = omega arith
up_to_fewer d (Some f) = by (nat_le f d)
  where
    by : (b : Bool) → one_if_some (if b then Some f else None) ≤ 1
    by true = omega arith
    by false = omega arith

-- ---- one journal after another

order_append : (C : List ℕ → List ℕ) (w : Wishes) (es fs : List Entry) (s : State) → AreInOrder C w s es → AreInOrder C w (after_entries C w s es) fs → AreInOrder C w s (es ++ fs)
order_append C w [] fs s g h = h
order_append C w (e ∷ es) fs s g h = (g.0, order_append C w es fs (after_entry C w s e) g.1 h)

-- ---- a journal so far

module _ (C : List ℕ → List ℕ) (w : Wishes) (s : State) (es : List Entry) (own : IsOwnSoFar C w s es) where
  m : AreLawful C w
  m = lawful (length w.owners) C w own.choice own.wishes

  reached : IsReached C w s
  reached = subst (IsReached C w) own.leads (good_reached C w m es (start w) (IsReached-start C w m) own.good)

  places : List (Option ℕ)
  places = map (λ d. at w d s.held) (below (length w.listed))

  place_is : (d : ℕ) → d < length w.listed → get_or places d None ≡ at w d s.held
  unfolding places
  place_is d lt =
      get_or-map (λ k. at w k s.held) (below (length w.listed)) d 0 None (omega (arith, lt, length-below (length w.listed)))
      ∙ ap (λ k. at w k s.held) (get_or-below (length w.listed) d 0 lt)

  is_desk : IsDesk (length w.owners) C w s places
  unfolding places
  is_desk = record {
    few = own.few;
    wishes = own.wishes;
    reached = (doctors w es, sym ((good_run C w m es (start w) (IsReached-start C w m) own.good).1 ∙ own.leads));
    long = length-map (below (length w.listed)) (λ d. at w d s.held) ∙ length-below (length w.listed);
    place = place_is;
  }

  module _ (e d : ℕ) (doctor : e < length w.listed) (last : e ≤ d) (before : NobodyElse w s (d + 1) (Some e)) where
    first_here : (x : ℕ) → next_offer w s e ≡ Some x → first_to_offer w s ≡ Some e
    first_here x next = first_from C w m s e (record {
      doctor = doctor;
      can = ap is_some next;
      least = λ k lt. before k (omega (arith, lt, last)) (λ same. let k = same_Some k e same in absurd (omega (arith, k, lt)));
    })

    module _ (x : ℕ) (outcome : Outcome) (told : turns.Moved x outcome ≡ turn_of C w s e) where
      next_here : next_offer w s e ≡ Some x
      next_here = (moved C w s e x outcome told).0

      pub own_more : (fs : List Entry) (t : State) → fs ≡ es ++ entry x outcome ∷ [] → t ≡ after_turn C w s e → IsOwnSoFar C w t fs
      own_more fs t pushed turned =
          let n = next_own C w m s e x next_here in
          let same : outcome ≡ outcome_of s.held x (C (with_one s.held x)) = (moved C w s e x outcome told).1 in
          let here = first_here x next_here ∙ ap Some (sym (is_offer C w m s e x next_here).own) in
          let is : IsOutcome s.held x (C (with_one s.held x)) outcome = subst (IsOutcome s.held x (C (with_one s.held x))) (sym same) (outcome_true C w m s e x reached next_here) in
          rw (pushed) (record {
            few = own.few;
            choice = own.choice;
            wishes = own.wishes;
            good = good_append C w m es (entry x outcome ∷ []) (start w) own.good (subst (λ u. AreGood C w u (entry x outcome ∷ [])) (sym own.leads) (n, is, tt));
            in_order = order_append C w es (entry x outcome ∷ []) (start w) own.in_order (subst (λ u. AreInOrder C w u (entry x outcome ∷ [])) (sym own.leads) (here, tt));
            leads = after_append C w m es (entry x outcome ∷ []) (start w) ∙ ap (λ u. after_entry C w u (entry x outcome)) own.leads ∙ sym (turn_own C w m s e x next_here) ∙ sym turned;
          })

      pub swapped_here : (owners : List ℕ) → owners ≡ w.owners → (z : ℕ) → outcome ≡ out.Swapped z → z < length owners
      swapped_here owners same z is =
          rw (same) (turn_swapped (length w.owners) C w s places own.choice is_desk e doctor x z (sym (ap (turns.Moved x) (sym is) ∙ told)))

      module _ (owners : List ℕ) (next : Option ℕ) (t : State) (same : owners ≡ w.owners) (goes : next ≡ up_to d (going_on owners e (turns.Moved x outcome))) (turned : t ≡ after_turn C w s e) where
        goes_on : next ≡ up_to d (going_on w.owners e (turn_of C w s e))
        goes_on = goes ∙ ap₂ (λ o u. up_to d (going_on o e u)) same told

        pub before_more : NobodyElse w t (d + 1) next
        before_more k lt ne =
            let settles = turn_settles (length w.owners) C w s places own.choice is_desk e doctor in
            let apart = up_to_apart d k (going_on w.owners e (turn_of C w s e)) (omega (arith, lt)) (λ f. ne (f ∙ sym goes_on)) in
            subst (λ u. next_offer w u k ≡ None) (sym turned)
            (settles.settled k apart
            (⊎_elim (λ same. inl same) (λ other. inr (before k lt (λ f. other (same_Some k e f)))) (cases_eq k e)))

        pub last_more : IfSome next (λ f. f ≤ d)
        last_more = subst (λ o. IfSome o (λ f. f ≤ d)) (sym goes_on) (up_to_last d (going_on w.owners e (turn_of C w s e)))

        pub fewer_more : left w t + one_if_some next ≤ left w s
        fewer_more =
            let fewer = turn_fewer (length w.owners) C w s places own.choice is_desk e doctor in
            let most = up_to_fewer d (going_on w.owners e (turn_of C w s e)) in
            rw (goes_on, turned) (omega (arith, fewer, most))

    -- whoever doesn't move can't offer
    module _ (none : next_offer w s e ≡ None) (t : State) (turned : t ≡ after_turn C w s e) where
      same_state : t ≡ s
      same_state = turned ∙ ap (after_offer C s e) none

      pub own_still : IsOwnSoFar C w t es
      own_still = subst (λ u. IsOwnSoFar C w u es) (sym same_state) own

      pub before_still : NobodyElse w t (d + 1) None
      before_still k lt ne =
          subst (λ u. next_offer w u k ≡ None) (sym same_state)
          (⊎_elim (λ same. ap (next_offer w s) same ∙ none) (λ other. before k lt (λ f. other (same_Some k e f))) (cases_eq k e))

      pub fewer_still : left w t + 0 ≤ left w s
      fewer_still = rw (same_state) (omega arith)

  -- ---- where nobody can offer any more

  pub own_ended : NobodyElse w s (length w.listed) None → IsOwnJournal C w es
  own_ended nobody = record {
    accepted = record {
      good = own.good;
      closed = subst (IsClosed C w) (sym own.leads) (nobody_closed C w m s (λ d i. nobody d (below-all_below (length w.listed) (λ _. true) d i).0 (λ f. none-some d (sym f))));
    };
    in_order = own.in_order;
  }

-- ---- the first and the last

pub own_start : (n : ℕ) (C : List ℕ → List ℕ) (w : Wishes) (s : State) (es : List Entry) → n < 2 ^ 32 → IsChoice n C → AreWishes n w → s ≡ start w → es ≡ [] → IsOwnSoFar C w s es
own_start n C w s es few choice wishes at none =
    let same = wishes.contracts in
    rw (at, none) (record {
      few = omega (arith, few, same);
      choice = subst (λ k. IsChoice k C) (sym same) choice;
      wishes = subst (λ k. AreWishes k w) (sym same) wishes;
      good = tt;
      in_order = tt;
      leads = refl;
    })

module _ (C : List ℕ → List ℕ) (w : Wishes) (m : AreLawful C w) where
  put_out_below : (s : State) (e : Entry) → IsReached C w s → IsTrueOf C s e → (z : ℕ) → e.outcome ≡ out.Swapped z → z < length w.owners
  put_out_below s e r is z same =
      let swapped : IsOutcome s.held e.x (C (with_one s.held e.x)) (out.Swapped z) = subst (IsOutcome s.held e.x (C (with_one s.held e.x))) same is in
      (subst (IsSetBelow (length w.owners)) (sym r.held) (IsSetBelow-chosen (length w.owners) C m.choice (offered_so_far w s) (IsSetBelow-offered C w m s))).below z swapped.0

  names_from : (es : List Entry) (s : State) → IsReached C w s → AreGood C w s es → All (NamesBelow (length w.owners)) es
  names_from [] s r g = All-nil (NamesBelow (length w.owners))
  names_from (e ∷ es) s r g =
      All-cons (NamesBelow (length w.owners)) e es
      ((is_offer C w m s (owner w e.x) e.x g.0).below, put_out_below s e r g.1)
      (names_from es (after_entry C w s e) (reached_offer C w m s (owner w e.x) e.x r g.0) g.2)

  -- good entries name contracts
  pub names_below : (n : ℕ) (es : List Entry) → length w.owners ≡ n → AreGood C w (start w) es → All (NamesBelow n) es
  names_below n es same g = subst (λ k. All (NamesBelow k) es) same (names_from es (start w) (IsReached-start C w m) g)
