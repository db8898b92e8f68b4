-- Closed runs: what is held is optimal, and each run goes on to a closed one.
use Rattle.std.proofs.Common.{◌≡◌, ℕ, zero, suc, ◌+◌, ◌<◌, ◌≤◌, List, [], ◌∷◌, ◌++◌, Bool, true, false, ◌⊎◌, length, get_or, refl, sym, ap, ◌∙◌, subst, inl, inr, ⊎_elim, arith, Option, Some, None, is_some, true≢false}
use Rattle.std.proofs.lemmas.Bool.{cases_lt}
use Rattle.std.proofs.lemmas.Option.{slice_get-get_or}
use Rattle.std.specs.Prelude.{slice_get, if◌then◌else◌}
use Rattle.std.proofs.lemmas.List.{get_or_past}
use Rattle.rm_sets.specs.Sets.{IsIn, all_below}
use Rattle.rm_sets.proofs.Sets.{not_both}
use Rattle.rm_sets.proofs.Members.{not_in_from, IsIn-all_below}
use Rattle.rm_sets.proofs.Sizes.{length-with_one, length_below}
use Rattle.rm_sets.proofs.Search.{cases_some}
use Rattle.rm_market.specs.Stable.{Wishes, owner, list_of, IsOptimal, Takes}
use Rattle.rm_market.specs.Machine.{State, start, next_offer, after_offer, after_turn, run, offered_so_far, IsClosed}
use Rattle.rm_matching_laws.proofs.Stable.{AreLawful}
use Rattle.rm_matching_laws.proofs.Places.{place, place-lt, has_place}
use Rattle.rm_matching_laws.proofs.Progress.{IsSpent, spent_optimal}
use Rattle.rm_matching_laws.proofs.Runs.{IsStep, IsReached, offered_by, from_offered, IsSetBelow-offered, cases_turn, offered-step, IsReached-turn, IsReached-run, IsReached-start, IsReached-after}

pub past_end : (L : List ℕ) (k : ℕ) → slice_get L k ≡ None → length L ≤ k
past_end L k e = ⊎_elim (λ lt. absurd (not_both (is_some (slice_get L k)) (ap is_some (slice_get-get_or L k 0 lt)) (ap is_some e))) (λ le. le) (cases_lt k (length L))

pub none_from : (o : Option ℕ) → is_some o ≡ false → o ≡ None
none_from None e = refl
none_from (Some x) e = absurd (true≢false e)

module _ (C : List ℕ → List ℕ) (D : Wishes) (m : AreLawful C D) where
  -- in a closed state no doctor can offer
  pub closed_cannot : (s : State) → IsReached C D s → IsClosed C D s → (d : ℕ) → next_offer D s d ≡ None
  closed_cannot s r closed d =
      ⊎_elim
      (λ h.
      let p : IsStep C D s s h.0 = subst (λ t. IsStep C D s t h.0) (closed d) h.1 in
      let e : get_or s.spent (owner D h.0) 0 ≡ suc (get_or s.spent (owner D h.0) 0) = p.here in
      absurd (omega arith))
      (λ h. h.1)
      (cases_turn C D m s d r.long)

  closed_cases : (s : State) → IsReached C D s → IsClosed C D s → (d : ℕ) → (has_place D d s.held ≡ true) ⊎ (length (list_of D d) ≤ get_or s.spent d 0)
  closed_cases s r closed d = parts (has_place D d s.held) refl (closed_cannot s r closed d)
    where
      parts : (b : Bool) → has_place D d s.held ≡ b → (if b then None else slice_get (list_of D d) (get_or s.spent d 0)) ≡ None → (has_place D d s.held ≡ true) ⊎ (length (list_of D d) ≤ get_or s.spent d 0)
      parts true e h = inl e
      parts false e h = inr (past_end (list_of D d) (get_or s.spent d 0) h)

  pub closed_spent : (s : State) → IsReached C D s → IsClosed C D s → IsSpent C D (offered_so_far D s)
  closed_spent s r closed d =
      ⊎_elim
      (λ placed. inl (subst (λ H. has_place D d H ≡ true) r.held placed))
      (λ done. inr (λ x i. let lt : place x (list_of D d) < length (list_of D d) = place-lt x (list_of D d) i in offered_by C D m s d x i (omega arith)))
      (closed_cases s r closed d)

  pub closed_optimal : (s : State) → IsReached C D s → IsClosed C D s → IsOptimal (Takes C) D s.held
  closed_optimal s r closed = subst (IsOptimal (Takes C) D) (sym r.held) (spent_optimal C D m (offered_so_far D s) r.progress (closed_spent s r closed))

  pub closed_is_optimal : (ds : List ℕ) → IsClosed C D (run C D (start D) ds) → IsOptimal (Takes C) D (run C D (start D) ds).held
  closed_is_optimal ds closed = closed_optimal (run C D (start D) ds) (IsReached-after C D m ds) closed

  -- ---- a closed run exists

  -- where no doctor with a list can offer, nobody can
  pub nobody_closed : (s : State) → ((d : ℕ) → IsIn d (all_below (length D.listed) (λ _. true)) → next_offer D s d ≡ None) → IsClosed C D s
  nobody_closed s none d =
      ap (after_offer C s d)
      (⊎_elim
      (λ lt. none d (IsIn-all_below (length D.listed) (λ _. true) d lt refl))
      (λ past.
      let e : list_of D d ≡ [] = get_or_past D.listed d [] past in
      both (has_place D d s.held) (slice_get (list_of D d) (get_or s.spent d 0)) (ap (λ L. slice_get L (get_or s.spent d 0)) e))
      (cases_lt d (length D.listed)))
    where
      both : (b : Bool) (o : Option ℕ) → o ≡ None → (if b then None else o) ≡ None
      both true o e = refl
      both false o e = e

  -- a turn that can offer makes one more offered contract
  pub more_offered : (s : State) (d : ℕ) → IsReached C D s → is_some (next_offer D s d) ≡ true → length (offered_so_far D (after_turn C D s d)) ≡ length (offered_so_far D s) + 1
  more_offered s d r can =
      ⊎_elim
      (λ h.
      let p : IsStep C D s (after_turn C D s d) h.0 = h.1 in
      let next : place h.0 (list_of D (owner D h.0)) ≡ get_or s.spent (owner D h.0) 0 = p.next in
      ap length (offered-step C D m s (after_turn C D s d) h.0 p)
      ∙ length-with_one (offered_so_far D s) h.0 (not_in_from h.0 (offered_so_far D s) (λ i. let lt : place h.0 (list_of D (owner D h.0)) < get_or s.spent (owner D h.0) 0 = (from_offered C D m s h.0 i).1 in omega arith)))
      (λ h. absurd (not_both (is_some (next_offer D s d)) can (ap is_some h.1)))
      (cases_turn C D m s d r.long)

  pub closes : (k : ℕ) (s : State) → IsReached C D s → (length D.owners) ≤ length (offered_so_far D s) + k → (es : List ℕ) × IsClosed C D (run C D s es)
  closes zero s r enough =
      ⊎_elim
      (λ h.
      let more : length (offered_so_far D (after_turn C D s h.0)) ≡ length (offered_so_far D s) + 1 = more_offered s h.0 r h.2 in
      let most : length (offered_so_far D (after_turn C D s h.0)) ≤ (length D.owners) = length_below (length D.owners) (offered_so_far D (after_turn C D s h.0)) (IsSetBelow-offered C D m (after_turn C D s h.0)) in
      absurd (omega arith))
      (λ none. ([], nobody_closed s (λ d i. none_from (next_offer D s d) (none d i))))
      (cases_some (λ d. is_some (next_offer D s d)) (all_below (length D.listed) (λ _. true)))
  closes (suc k) s r enough =
      ⊎_elim
      (λ h.
      let more : length (offered_so_far D (after_turn C D s h.0)) ≡ length (offered_so_far D s) + 1 = more_offered s h.0 r h.2 in
      let rest = closes k (after_turn C D s h.0) (IsReached-turn C D m s h.0 r) (omega arith) in
      (h.0 ∷ rest.0, rest.1))
      (λ none. ([], nobody_closed s (λ d i. none_from (next_offer D s d) (none d i))))
      (cases_some (λ d. is_some (next_offer D s d)) (all_below (length D.listed) (λ _. true)))

  pub run-append : (ds es : List ℕ) (s : State) → run C D s (ds ++ es) ≡ run C D (run C D s ds) es
  run-append [] es s = refl
  run-append (d ∷ ds) es s = run-append ds es (after_turn C D s d)

  pub runs_close : (ds : List ℕ) → (es : List ℕ) × IsClosed C D (run C D (start D) (ds ++ es))
  runs_close ds =
      let h = closes (length D.owners) (run C D (start D) ds) (IsReached-after C D m ds) (omega arith) in
      (h.0, subst (IsClosed C D) (sym (run-append ds h.0 (start D))) h.1)

  -- a closed state that a run reaches
  pub final : (s : State) × IsReached C D s × IsClosed C D s
  final =
      let h = closes (length D.owners) (start D) (IsReached-start C D m) (omega arith) in
      (run C D (start D) h.0, IsReached-run C D m h.0 (start D) (IsReached-start C D m), h.1)

  pub optimal_exists : (S : List ℕ) × IsOptimal (Takes C) D S
  optimal_exists = let f = final in (f.0.held, closed_optimal f.0 f.1 f.2)
