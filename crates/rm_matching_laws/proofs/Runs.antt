-- Each run: what is held is chosen of what was offered, and no contract of a stable placement is refused.
use Rattle.std.proofs.Common.{◌≡◌, ℕ, suc, ◌+◌, ◌<◌, ◌≤◌, List, [], ◌∷◌, Bool, true, false, ◌⊎◌, length, get_or, set, take, replicate, refl, sym, ap, ◌∙◌, subst, inl, inr, ⊎_elim, arith, Option, Some, None, length-set, get_or-set_same, get_or-set_other}
use Rattle.std.proofs.lemmas.Bool.{cases_eq, cases_lt}
use Rattle.std.proofs.lemmas.Option.{slice_get_within, get_or_from_slice_get}
use Rattle.std.specs.Prelude.{slice_get, if◌then◌else◌}
use Rattle.std.proofs.lemmas.List.{get_or_past, get_or-replicate, length-replicate}
use Rattle.rm_sets.specs.Sets.{has, IsIn, IsSetBelow, with_one}
use Rattle.rm_sets.proofs.Sets.{same_within, not_both, cases_has, IsSet-nil, IsSet-with_one, IsIn-with_one_cases, IsSetBelow-all_below, below-all_below}
use Rattle.rm_sets.proofs.Members.{within_nil, IsIn-get_or, IsIn-all_below, IsIn-with_one_old, IsIn-with_one_new, IsSetBelow-nil}
use Rattle.rm_market.specs.Stable.{Wishes, owner, list_of, IsStable, Takes}
use Rattle.rm_market.specs.Machine.{State, start, next_offer, offered, after_offer, after_turn, run, offered_so_far}
use Rattle.rm_matching_laws.proofs.PathIndependence.{chosen-with_one}
use Rattle.rm_matching_laws.proofs.Progress.{IsProgress, IsNext, IsProgress-next, IsProgress-nil, IsFirm-from_stable}
use Rattle.rm_matching_laws.proofs.Stable.{AreLawful}
use Rattle.rm_matching_laws.proofs.Places.{place, place_same, place-get_or, none_from_not_placed, has_place, in_take, place-lt_take, from_take}

-- the doctor of x, who holds nothing, offers x, which is next on his list
pub record IsStep (C : List ℕ → List ℕ) (D : Wishes) (s t : State) (x : ℕ) : Type 0 where
  pub listed : IsIn x (list_of D (owner D x))
  pub next : place x (list_of D (owner D x)) ≡ get_or s.spent (owner D x) 0
  pub here : get_or t.spent (owner D x) 0 ≡ suc (get_or s.spent (owner D x) 0)
  pub other : (e : ℕ) → (e ≡ owner D x → ⊥) → get_or t.spent e 0 ≡ get_or s.spent e 0
  pub unplaced : (y : ℕ) → IsIn y s.held → owner D y ≡ owner D x → ⊥
  pub held : t.held ≡ C (with_one s.held x)
  pub long : length t.spent ≡ length s.spent

-- what each state of a run meets
pub record IsReached (C : List ℕ → List ℕ) (D : Wishes) (s : State) : Type 0 where
  pub long : length s.spent ≡ length D.listed
  pub held : s.held ≡ C (offered_so_far D s)
  pub progress : IsProgress C D (offered_so_far D s)

module _ (C : List ℕ → List ℕ) (D : Wishes) (m : AreLawful C D) where
  -- ---- what was offered

  pub offered_by : (s : State) (d x : ℕ) → IsIn x (list_of D d) → place x (list_of D d) < get_or s.spent d 0 → IsIn x (offered_so_far D s)
  offered_by s d x i lt =
      let own : owner D x ≡ d = (m.lists d).owned x i in
      IsIn-all_below (length D.owners) (λ z. has z (take (get_or s.spent (owner D z) 0) (list_of D (owner D z)))) x ((m.lists d).below x i)
      (subst (λ e. has x (take (get_or s.spent e 0) (list_of D e)) ≡ true) (sym own) (in_take x (get_or s.spent d 0) (list_of D d) i lt))

  pub from_offered : (s : State) (x : ℕ) → IsIn x (offered_so_far D s) → IsIn x (list_of D (owner D x)) × (place x (list_of D (owner D x)) < get_or s.spent (owner D x) 0)
  from_offered s x i =
      let t = below-all_below (length D.owners) (λ z. has z (take (get_or s.spent (owner D z) 0) (list_of D (owner D z)))) x i in
      (from_take x (get_or s.spent (owner D x) 0) (list_of D (owner D x)) t.1, place-lt_take x (get_or s.spent (owner D x) 0) (list_of D (owner D x)) t.1)

  pub IsSetBelow-offered : (s : State) → IsSetBelow (length D.owners) (offered_so_far D s)
  IsSetBelow-offered s = IsSetBelow-all_below (length D.owners) (λ z. has z (take (get_or s.spent (owner D z) 0) (list_of D (owner D z))))

  -- ---- one turn

  step_from_offer : (s : State) (d : ℕ) → length s.spent ≡ length D.listed → has_place D d s.held ≡ false → get_or s.spent d 0 < length (list_of D d) → IsStep C D s (offered C s d (get_or (list_of D d) (get_or s.spent d 0) 0)) (get_or (list_of D d) (get_or s.spent d 0) 0)
  step_from_offer s d long out lt =
      let L : List ℕ = list_of D d in
      let k : ℕ = get_or s.spent d 0 in
      let x : ℕ = get_or L k 0 in
      let i : IsIn x L = IsIn-get_or L k 0 lt in
      let own : owner D x ≡ d = (m.lists d).owned x i in
      let spot : place x L ≡ k = place-get_or L (m.lists d).distinct k lt in
      let there : d < length s.spent = ⊎_elim (λ h. omega arith) (λ past. let e : list_of D d ≡ [] = get_or_past D.listed d [] past in let z : length (list_of D d) ≡ 0 = ap length e in absurd (omega arith)) (cases_lt d (length D.listed)) in
      record {
        listed = subst (λ e. IsIn x (list_of D e)) (sym own) i;
        next = subst (λ e. place x (list_of D e) ≡ get_or s.spent e 0) (sym own) spot;
        here = subst (λ e. get_or (set s.spent d (k + 1)) e 0 ≡ suc (get_or s.spent e 0)) (sym own) (get_or-set_same s.spent d (k + 1) 0 there ∙ omega arith);
        other = λ e ne. get_or-set_other s.spent d e (k + 1) 0 (λ same. ne (same ∙ sym own));
        unplaced = λ y j same. none_from_not_placed D d s.held out y j (same ∙ own);
        held = refl;
        long = length-set s.spent d (k + 1);
      }

  -- a turn is a step, or changes nothing
  pub cases_turn :
      (s : State) (d : ℕ) → length s.spent ≡ length D.listed →
      ((x : ℕ) × IsStep C D s (after_turn C D s d) x) ⊎ ((after_turn C D s d ≡ s) × (next_offer D s d ≡ None))
  cases_turn s d long = by (has_place D d s.held) refl (slice_get (list_of D d) (get_or s.spent d 0)) refl
    where
      by :
          (b : Bool) → has_place D d s.held ≡ b → (o : Option ℕ) → slice_get (list_of D d) (get_or s.spent d 0) ≡ o →
          ((x : ℕ) × IsStep C D s (after_offer C s d (if b then None else o)) x) ⊎ ((after_offer C s d (if b then None else o) ≡ s) × ((if b then None else o) ≡ None))
      by true e o f = inr (refl, refl)
      by false e None f = inr (refl, refl)
      by false e (Some x) f =
          let lt : get_or s.spent d 0 < length (list_of D d) = slice_get_within (list_of D d) (get_or s.spent d 0) x f in
          inl (x, subst (λ y. IsStep C D s (offered C s d y) y) (get_or_from_slice_get (list_of D d) (get_or s.spent d 0) x 0 f) (step_from_offer s d long e lt))

  -- ---- a step

  pub spent_grows : (s t : State) (x e : ℕ) → IsStep C D s t x → get_or s.spent e 0 ≤ get_or t.spent e 0
  spent_grows s t x e p =
      ⊎_elim
      (λ same. subst (λ k. get_or s.spent k 0 ≤ get_or t.spent k 0) (sym same) (let h : get_or t.spent (owner D x) 0 ≡ suc (get_or s.spent (owner D x) 0) = p.here in omega arith))
      (λ ne. let h : get_or t.spent e 0 ≡ get_or s.spent e 0 = p.other e ne in omega arith)
      (cases_eq e (owner D x))

  pub offered-step : (s t : State) (x : ℕ) → IsStep C D s t x → offered_so_far D t ≡ with_one (offered_so_far D s) x
  offered-step s t x p =
      same_within (offered_so_far D t) (with_one (offered_so_far D s) x)
      (IsSetBelow-offered t).ascending (IsSet-with_one (offered_so_far D s) x (IsSetBelow-offered s).ascending)
      (λ y i. let h = from_offered t y i in
      let low : place y (list_of D (owner D y)) < get_or t.spent (owner D y) 0 = h.1 in
      ⊎_elim
      (λ old. IsIn-with_one_old (offered_so_far D s) x y (offered_by s (owner D y) y h.0 old))
      (λ new. ⊎_elim
      (λ same. subst (λ z. IsIn z (with_one (offered_so_far D s) x)) (sym (equal y h.0 low new same)) (IsIn-with_one_new (offered_so_far D s) x))
      (λ ne. let k : get_or t.spent (owner D y) 0 ≡ get_or s.spent (owner D y) 0 = p.other (owner D y) ne in absurd (omega arith))
      (cases_eq (owner D y) (owner D x)))
      (cases_lt (place y (list_of D (owner D y))) (get_or s.spent (owner D y) 0)))
      (λ y i. ⊎_elim
      (λ old. let h = from_offered s y old in
      let lt : place y (list_of D (owner D y)) < get_or s.spent (owner D y) 0 = h.1 in
      let up : get_or s.spent (owner D y) 0 ≤ get_or t.spent (owner D y) 0 = spent_grows s t x (owner D y) p in
      offered_by t (owner D y) y h.0 (omega arith))
      (λ same. subst (λ z. IsIn z (offered_so_far D t)) (sym same)
      (let n : place x (list_of D (owner D x)) ≡ get_or s.spent (owner D x) 0 = p.next in
      let u : get_or t.spent (owner D x) 0 ≡ suc (get_or s.spent (owner D x) 0) = p.here in
      offered_by t (owner D x) x p.listed (omega arith)))
      (IsIn-with_one_cases y (offered_so_far D s) x i))
    where
      equal : (y : ℕ) → IsIn y (list_of D (owner D y)) → place y (list_of D (owner D y)) < get_or t.spent (owner D y) 0 → get_or s.spent (owner D y) 0 ≤ place y (list_of D (owner D y)) → owner D y ≡ owner D x → y ≡ x
      equal y i lt le own =
          let there : IsIn y (list_of D (owner D x)) = subst (λ e. IsIn y (list_of D e)) own i in
          let low : place y (list_of D (owner D x)) < get_or t.spent (owner D x) 0 = subst (λ e. place y (list_of D e) < get_or t.spent e 0) own lt in
          let high : get_or s.spent (owner D x) 0 ≤ place y (list_of D (owner D x)) = subst (λ e. get_or s.spent e 0 ≤ place y (list_of D e)) own le in
          let u : get_or t.spent (owner D x) 0 ≡ suc (get_or s.spent (owner D x) 0) = p.here in
          let n : place x (list_of D (owner D x)) ≡ get_or s.spent (owner D x) 0 = p.next in
          place_same y x (list_of D (owner D x)) there p.listed (omega arith)

  held-step : (s t : State) (x : ℕ) → IsReached C D s → IsStep C D s t x → t.held ≡ C (offered_so_far D t)
  held-step s t x r p =
      p.held
      ∙ ap (λ S. C (with_one S x)) r.held
      ∙ sym (chosen-with_one (length D.owners) C m.choice (offered_so_far D s) x (IsSetBelow-offered s) ((m.lists (owner D x)).below x p.listed))
      ∙ ap C (sym (offered-step s t x p))

  -- the offered contract is next
  pub IsNext-step : (s t : State) (x : ℕ) → IsReached C D s → IsStep C D s t x → IsNext C D (offered_so_far D s) x
  IsNext-step s t x r p = record {
    listed = p.listed;
    before = λ y i lt. let n : place x (list_of D (owner D x)) ≡ get_or s.spent (owner D x) 0 = p.next in offered_by s (owner D x) y i (omega arith);
    unplaced = λ y i own. p.unplaced y (subst (IsIn y) (sym r.held) i) own;
  }

  -- ---- runs

  pub IsReached-step : (s t : State) (x : ℕ) → IsReached C D s → IsStep C D s t x → IsReached C D t
  IsReached-step s t x r p = record {
    long = p.long ∙ r.long;
    held = held-step s t x r p;
    progress = subst (IsProgress C D) (sym (offered-step s t x p)) (IsProgress-next C D m (offered_so_far D s) x r.progress (IsNext-step s t x r p));
  }

  pub IsReached-turn : (s : State) (d : ℕ) → IsReached C D s → IsReached C D (after_turn C D s d)
  IsReached-turn s d r =
      ⊎_elim
      (λ h. IsReached-step s (after_turn C D s d) h.0 r h.1)
      (λ h. subst (IsReached C D) (sym h.0) r)
      (cases_turn s d r.long)

  zeros : (n k : ℕ) → get_or {A = ℕ} (replicate n 0) k 0 ≡ 0
  zeros n k = ⊎_elim (λ lt. get_or-replicate n k 0 0 lt) (λ ge. get_or_past (replicate n 0) k 0 (let e : length {A = ℕ} (replicate n 0) ≡ n = length-replicate n 0 in omega arith)) (cases_lt k n)

  pub offered-start : offered_so_far D (start D) ≡ []
  offered-start =
      same_within (offered_so_far D (start D)) [] (IsSetBelow-offered (start D)).ascending IsSet-nil
      (λ x i. let h = from_offered (start D) x i in let z : get_or {A = ℕ} (replicate (length D.listed) 0) (owner D x) 0 ≡ 0 = zeros (length D.listed) (owner D x) in absurd (omega arith))
      (within_nil (offered_so_far D (start D)))

  pub IsReached-start : IsReached C D (start D)
  IsReached-start =
      record {
        long = length-replicate (length D.listed) 0;
        held = same_within [] (C []) IsSet-nil (m.choice.ascending [] (IsSetBelow-nil (length D.owners))) (within_nil (C [])) (m.choice.within [] (IsSetBelow-nil (length D.owners)))
            ∙ ap C (sym offered-start);
        progress = subst (IsProgress C D) (sym offered-start) (IsProgress-nil C D m);
      }

  pub IsReached-run : (ds : List ℕ) (s : State) → IsReached C D s → IsReached C D (run C D s ds)
  IsReached-run [] s r = r
  IsReached-run (d ∷ ds) s r = IsReached-run ds (after_turn C D s d) (IsReached-turn s d r)

  pub IsReached-after : (ds : List ℕ) → IsReached C D (run C D (start D) ds)
  IsReached-after ds = IsReached-run ds (start D) IsReached-start

  -- what is held is chosen of all that was offered
  pub held_is_chosen : (ds : List ℕ) → (run C D (start D) ds).held ≡ C (offered_so_far D (run C D (start D) ds))
  held_is_chosen ds = (IsReached-after ds).held

  -- a contract that was offered and isn't held stands in no stable placement
  pub refused_is_nowhere : (ds : List ℕ) (x : ℕ) → IsIn x (offered_so_far D (run C D (start D) ds)) → has x (run C D (start D) ds).held ≡ false → (T : List ℕ) → IsStable (Takes C) D T → has x T ≡ false
  refused_is_nowhere ds x i out T stable =
      let r : IsReached C D (run C D (start D) ds) = IsReached-after ds in
      ⊎_elim
      (λ in_T. absurd (not_both (has x (run C D (start D) ds).held) (subst (IsIn x) (sym r.held) (r.progress.safe T (IsFirm-from_stable C D m T stable) x in_T i)) out))
      (λ h. h)
      (cases_has x T)
