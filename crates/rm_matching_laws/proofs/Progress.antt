-- Sets of contracts that were offered one by one, whatever machine offers them: what is chosen of them refuses no contract of
-- a stable placement, and is optimal once nobody has a contract left.
use Rattle.std.proofs.Common.{◌≡◌, ℕ, length, ◌<◌, ◌≤◌, List, [], true, false, ◌⊎◌, sym, ap, ◌∙◌, subst, inl, inr, ⊎_elim, arith, Some}
use Rattle.rm_sets.specs.Sets.{has, IsIn, IsSetBelow, IsWithin, with_one, union}
use Rattle.rm_sets.proofs.Sets.{not_both, IsIn-with_one_cases}
use Rattle.rm_sets.proofs.Members.{not_in_nil, with_one_within, within-with_one, IsIn-with_one_old, IsSetBelow-with_one, IsSetBelow-nil}
use Rattle.rm_market.specs.Stable.{Wishes, owner, list_of, at, IsStable, IsOptimal, Takes}
use Rattle.rm_matching_laws.proofs.PathIndependence.{IsSetBelow-chosen, chosen-chosen, kept_in_chosen, refused_together}
use Rattle.rm_matching_laws.proofs.Stable.{AreLawful, unblocked, stable_from, optimal_from}
use Rattle.rm_matching_laws.proofs.Places.{place, has_place, Prefers, PrefersPlace, Wants, IsSingle, cases_place, from_placed, cases_contract, wants_from, wants_earlier}

-- a placement that is chosen whole beside any contracts that it wants; each stable one is
pub record IsFirm (C : List ℕ → List ℕ) (D : Wishes) (T : List ℕ) : Type 0 where
  pub set : IsSetBelow (length D.owners) T
  pub single : IsSingle D T
  pub listed : (x : ℕ) → IsIn x T → IsIn x (list_of D (owner D x))
  pub firm : (W : List ℕ) → IsSetBelow (length D.owners) W → ((y : ℕ) → IsIn y W → has y T ≡ false → Wants D T y) → IsWithin T (C (union T W))

-- A was offered: each doctor offered the first of his list, and the next only when nothing of his was chosen
pub record IsProgress (C : List ℕ → List ℕ) (D : Wishes) (A : List ℕ) : Type 0 where
  pub set : IsSetBelow (length D.owners) A
  pub listed : (x : ℕ) → IsIn x A → IsIn x (list_of D (owner D x))
  pub before : (x y : ℕ) → IsIn y A → IsIn x (list_of D (owner D y)) → place x (list_of D (owner D y)) < place y (list_of D (owner D y)) → IsIn x A
  pub single : IsSingle D (C A)
  pub safe : (T : List ℕ) → IsFirm C D T → (x : ℕ) → IsIn x T → IsIn x A → IsIn x (C A)

-- x is next on its doctor's list, and nothing of his is chosen
pub record IsNext (C : List ℕ → List ℕ) (D : Wishes) (A : List ℕ) (x : ℕ) : Type 0 where
  pub listed : IsIn x (list_of D (owner D x))
  pub before : (y : ℕ) → IsIn y (list_of D (owner D x)) → place y (list_of D (owner D x)) < place x (list_of D (owner D x)) → IsIn y A
  pub unplaced : (y : ℕ) → IsIn y (C A) → owner D y ≡ owner D x → ⊥

-- each doctor has a contract that is chosen, or offered his whole list
abbrev pub IsSpent : (List ℕ → List ℕ) → Wishes → List ℕ → Type 0
IsSpent C D A = (d : ℕ) → (has_place D d (C A) ≡ true) ⊎ ((x : ℕ) → IsIn x (list_of D d) → IsIn x A)

module _ (C : List ℕ → List ℕ) (D : Wishes) (m : AreLawful C D) where
  pub IsFirm-from_stable : (T : List ℕ) → IsStable (Takes C) D T → IsFirm C D T
  IsFirm-from_stable T s = record {
    set = s.placement.set;
    single = s.placement.once;
    listed = s.placement.listed;
    firm = λ W w wants x i. subst (IsIn x) (sym (refused_together (length D.owners) C m.choice T W s.placement.set w s.kept (λ y j out. unblocked C D T y s (w.below y j) (wants y j out)))) i;
  }

  pub IsSetBelow-next : (A : List ℕ) (x : ℕ) → IsProgress C D A → IsNext C D A x → IsSetBelow (length D.owners) (with_one A x)
  IsSetBelow-next A x p q = IsSetBelow-with_one (length D.owners) A x p.set ((m.lists (owner D x)).below x q.listed)

  -- what is chosen after x is offered was chosen before, or is x
  pub chosen_cases : (A : List ℕ) (x : ℕ) → IsProgress C D A → IsNext C D A x → (y : ℕ) → IsIn y (C (with_one A x)) → IsIn y (C A) ⊎ (y ≡ x)
  chosen_cases A x p q y i =
      ⊎_elim
      (λ old. inl (m.choice.kept A (with_one A x) p.set (IsSetBelow-next A x p q) (within-with_one A x) y old i))
      (λ new. inr new)
      (IsIn-with_one_cases y A x (m.choice.within (with_one A x) (IsSetBelow-next A x p q) y i))

  single-next : (A : List ℕ) (x : ℕ) → IsProgress C D A → IsNext C D A x → IsSingle D (C (with_one A x))
  single-next A x p q y z i j same =
      ⊎_elim
      (λ old. ⊎_elim
      (λ old'. p.single y z old old' same)
      (λ new'. absurd (q.unplaced y old (same ∙ ap (owner D) new')))
      (chosen_cases A x p q z j))
      (λ new. ⊎_elim
      (λ old'. absurd (q.unplaced z old' (sym same ∙ ap (owner D) new)))
      (λ new'. new ∙ sym new')
      (chosen_cases A x p q z j))
      (chosen_cases A x p q y i)

  before-next : (A : List ℕ) (x : ℕ) → IsProgress C D A → IsNext C D A x → (z y : ℕ) → IsIn y (with_one A x) → IsIn z (list_of D (owner D y)) → place z (list_of D (owner D y)) < place y (list_of D (owner D y)) → IsIn z (with_one A x)
  before-next A x p q z y i j lt =
      IsIn-with_one_old A x z
      (⊎_elim
      (λ old. p.before z y old j lt)
      (λ new. q.before z (subst (λ a. IsIn z (list_of D (owner D a))) new j) (subst (λ a. place z (list_of D (owner D a)) < place a (list_of D (owner D a))) new lt))
      (IsIn-with_one_cases y A x i))

  -- what is chosen after x is offered and isn't in T is wanted there
  next_wanted : (A : List ℕ) (x : ℕ) → IsProgress C D A → IsNext C D A x → (T : List ℕ) → IsFirm C D T → (y : ℕ) → IsIn y (C (with_one A x)) → has y T ≡ false → Wants D T y
  next_wanted A x p q T t y i out =
      wants_from D T t.listed y listed out
      (λ z j own.
      let there : IsIn z (list_of D (owner D y)) = subst (λ e. IsIn z (list_of D e)) own (t.listed z j) in
      ⊎_elim
      (λ lt. lt)
      (λ le. ⊎_elim
      (λ same. absurd (not_both (has y T) (subst (λ a. IsIn a T) (sym same) j) out))
      (λ gt. absurd (late z j own there gt))
      le)
      (cases_place y z (list_of D (owner D y)) listed there))
    where
      listed : IsIn y (list_of D (owner D y))
      listed = ⊎_elim
          (λ old. p.listed y (m.choice.within A p.set y old))
          (λ new. subst (λ a. IsIn a (list_of D (owner D a))) (sym new) q.listed)
          (chosen_cases A x p q y i)

      -- a contract of T before y was offered, so it was chosen; so y isn't of a doctor who could offer, nor chosen before
      late : (z : ℕ) → IsIn z T → owner D z ≡ owner D y → IsIn z (list_of D (owner D y)) → place z (list_of D (owner D y)) < place y (list_of D (owner D y)) → ⊥
      late z j own there lt =
          ⊎_elim
          (λ old.
          let chosen_z : IsIn z (C A) = p.safe T t z j (p.before z y (m.choice.within A p.set y old) there lt) in
          let e : place z (list_of D (owner D y)) ≡ place y (list_of D (owner D y)) = ap (λ a. place a (list_of D (owner D y))) (p.single z y chosen_z old own) in
          omega arith)
          (λ new.
          let in_A : IsIn z A = q.before z (subst (λ a. IsIn z (list_of D (owner D a))) new there) (subst (λ a. place z (list_of D (owner D a)) < place a (list_of D (owner D a))) new lt) in
          q.unplaced z (p.safe T t z j in_A) (own ∙ ap (owner D) new))
          (chosen_cases A x p q y i)

  pub IsProgress-next : (A : List ℕ) (x : ℕ) → IsProgress C D A → IsNext C D A x → IsProgress C D (with_one A x)
  IsProgress-next A x p q =
      let w : IsSetBelow (length D.owners) (with_one A x) = IsSetBelow-next A x p q in
      record {
        set = w;
        listed = λ y i. ⊎_elim (λ old. p.listed y old) (λ new. subst (λ a. IsIn a (list_of D (owner D a))) (sym new) q.listed) (IsIn-with_one_cases y A x i);
        before = before-next A x p q;
        single = single-next A x p q;
        safe = λ T t y i j. kept_in_chosen (length D.owners) C m.choice T (with_one A x) t.set w
            (t.firm (C (with_one A x)) (IsSetBelow-chosen (length D.owners) C m.choice (with_one A x) w) (λ z k out. next_wanted A x p q T t z k out)) y i j;
      }

  pub IsProgress-nil : IsProgress C D []
  IsProgress-nil = record {
    set = IsSetBelow-nil (length D.owners);
    listed = λ x i. absurd (not_in_nil x i);
    before = λ x y i j lt. absurd (not_in_nil y i);
    single = λ x y i j same. absurd (not_in_nil x (m.choice.within [] (IsSetBelow-nil (length D.owners)) x i));
    safe = λ T t x i j. absurd (not_in_nil x j);
  }

  -- ---- once nobody has a contract left

  -- what a doctor lists no later than his place was offered
  pub spent_offered : (A : List ℕ) → IsProgress C D A → IsSpent C D A → (d x : ℕ) → IsIn x (list_of D d) → ((y : ℕ) → IsIn y (C A) → owner D y ≡ d → place x (list_of D d) ≤ place y (list_of D d)) → IsIn x A
  spent_offered A p spent d x i early =
      ⊎_elim
      (λ placed.
      let h = from_placed D d (C A) placed in
      let y : ℕ = h.0 in
      let in_A : IsIn y A = m.choice.within A p.set y h.1 in
      let there : IsIn y (list_of D d) = subst (λ e. IsIn y (list_of D e)) h.2 (p.listed y in_A) in
      let le : place x (list_of D d) ≤ place y (list_of D d) = early y h.1 h.2 in
      ⊎_elim
      (λ lt. p.before x y in_A (subst (λ e. IsIn x (list_of D e)) (sym h.2) i) (subst (λ e. place x (list_of D e) < place y (list_of D e)) (sym h.2) lt))
      (λ ge. ⊎_elim (λ same. subst (λ a. IsIn a A) (sym same) in_A) (λ gt. absurd (omega arith)) ge)
      (cases_place x y (list_of D d) i there))
      (λ all. all x i)
      (spent d)

  spent_stable : (A : List ℕ) → IsProgress C D A → IsSpent C D A → IsStable (Takes C) D (C A)
  spent_stable A p spent =
      let H : List ℕ = C A in
      let h : IsSetBelow (length D.owners) H = IsSetBelow-chosen (length D.owners) C m.choice A p.set in
      stable_from C D m H h p.single (λ x i. p.listed x (m.choice.within A p.set x i)) (chosen-chosen (length D.owners) C m.choice A p.set)
      (λ x _ w.
      let there : IsIn x A = spent_offered A p spent (owner D x) x w.listed (λ y i own. let lt : place x (list_of D (owner D x)) < place y (list_of D (owner D x)) = wants_earlier D H x p.single w y i own in omega arith) in
      m.choice.same (with_one H x) A (IsSetBelow-with_one (length D.owners) H x h (p.set.below x there)) p.set
      (with_one_within H A x (m.choice.within A p.set) there)
      (within-with_one H x))

  -- no doctor prefers his contract in a firm placement
  pub spent_best : (A : List ℕ) → IsProgress C D A → IsSpent C D A → (T : List ℕ) → IsFirm C D T → (d : ℕ) → PrefersPlace D d (at D d T) (at D d (C A)) → ⊥
  spent_best A p spent T firm d h =
      ⊎_elim
      (λ t.
      let listed : IsIn t.0 (list_of D d) = subst (λ e. IsIn t.0 (list_of D e)) t.2 (firm.listed t.0 t.1) in
      let better : Prefers D d t.0 (at D d (C A)) = subst (λ o. PrefersPlace D d o (at D d (C A))) t.3 h in
      ⊎_elim
      (λ y.
      let q : Prefers D d t.0 (Some y.0) = subst (Prefers D d t.0) y.3 better in
      let lt : place t.0 (list_of D d) < place y.0 (list_of D d) = q.2 in
      let there : IsIn t.0 A = spent_offered A p spent d t.0 listed
      (λ z i own. let e : place z (list_of D d) ≡ place y.0 (list_of D d) = ap (λ a. place a (list_of D d)) (p.single z y.0 i y.1 (own ∙ sym y.2)) in omega arith) in
      let same : place t.0 (list_of D d) ≡ place y.0 (list_of D d) = ap (λ a. place a (list_of D d)) (p.single t.0 y.0 (p.safe T firm t.0 t.1 there) y.1 (t.2 ∙ sym y.2)) in
      omega arith)
      (λ none.
      let there : IsIn t.0 A = spent_offered A p spent d t.0 listed (λ z i own. absurd (none.0 z i own)) in
      none.0 t.0 (p.safe T firm t.0 t.1 there) t.2)
      (cases_contract D d (C A)))
      (λ none. subst (λ o. PrefersPlace D d o (at D d (C A))) none.1 h)
      (cases_contract D d T)

  pub spent_optimal : (A : List ℕ) → IsProgress C D A → IsSpent C D A → IsOptimal (Takes C) D (C A)
  spent_optimal A p spent = optimal_from C D m (C A) (spent_stable A p spent) (λ T stable d h. spent_best A p spent T (IsFirm-from_stable T stable) d h)
