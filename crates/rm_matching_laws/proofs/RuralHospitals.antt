-- All stable placements place the same doctors.
use Rattle.std.proofs.Common.{◌≡◌, ℕ, ◌≤◌, List, false, length, refl, sym, ap, ◌∙◌, subst, ⊎_elim, arith, Option, Some, None}
use Rattle.rm_sets.specs.Sets.{has, IsIn, IsSetBelow, union}
use Rattle.rm_sets.proofs.Sets.{not_both, same_tests}
use Rattle.rm_sets.proofs.Members.{IsIn-union_right, IsSetBelow-union}
use Rattle.rm_sets.proofs.Counting.{hits_all}
use Rattle.rm_market.specs.Stable.{Wishes, owner, list_of, at, IsStable, IsOptimal, Takes}
use Rattle.rm_market.specs.Machine.{offered_so_far}
use Rattle.rm_matching_laws.proofs.Stable.{AreLawful, unblocked, no_better}
use Rattle.rm_matching_laws.proofs.PathIndependence.{refused_together, IsSetBelow-chosen, chosen-chosen}
use Rattle.rm_matching_laws.proofs.Progress.{IsProgress, IsSpent, IsFirm-from_stable, spent_optimal}
use Rattle.rm_matching_laws.proofs.Places.{has_place, Wants, cases_place, cases_contract, contract_is, from_placed, placed_from, wants_from, gain}
use Rattle.rm_matching_laws.proofs.ClosedRuns.{closed_spent, final}

-- the contract, or 0 where there is none
abbrev or_zero : Option ℕ → ℕ
or_zero None = 0
or_zero (Some x) = x

-- the contract in H of the doctor of x
found : Wishes → List ℕ → ℕ → ℕ
found D H x = or_zero (at D (owner D x) H)

found_is : (D : Wishes) (H : List ℕ) (x z : ℕ) → at D (owner D x) H ≡ Some z → found D H x ≡ z
unfolding found
found_is D H x z e = ap or_zero e

module _ (C : List ℕ → List ℕ) (D : Wishes) (m : AreLawful C D) where
  -- what is held and isn't in a stable placement is wanted there
  chosen_wanted : (A : List ℕ) → IsProgress C D A → (T : List ℕ) → IsStable (Takes C) D T → (y : ℕ) → IsIn y (C A) → has y T ≡ false → Wants D T y
  chosen_wanted A p T stable y i out =
      let in_A : IsIn y A = m.choice.within A p.set y i in
      let listed : IsIn y (list_of D (owner D y)) = p.listed y in_A in
      wants_from D T stable.placement.listed y listed out
      (λ z j own.
      let there : IsIn z (list_of D (owner D y)) = subst (λ e. IsIn z (list_of D e)) own (stable.placement.listed z j) in
      ⊎_elim
      (λ lt. lt)
      (λ le. ⊎_elim
      (λ same. absurd (not_both (has y T) (subst (λ a. IsIn a T) (sym same) j) out))
      (λ gt.
      let chosen_z : IsIn z (C A) = p.safe T (IsFirm-from_stable C D m T stable) z j (p.before z y in_A there gt) in
      absurd (not_both (has y T) (subst (λ a. IsIn a T) (p.single z y chosen_z i own) j) out))
      le)
      (cases_place y z (list_of D (owner D y)) listed there))

  -- a stable placement is no shorter than what is chosen
  chosen_shorter : (A : List ℕ) → IsProgress C D A → (T : List ℕ) → IsStable (Takes C) D T → length (C A) ≤ length T
  chosen_shorter A p T stable =
      let H : List ℕ = C A in
      let h : IsSetBelow (length D.owners) H = IsSetBelow-chosen (length D.owners) C m.choice A p.set in
      let all : C (union T H) ≡ T = refused_together (length D.owners) C m.choice T H stable.placement.set h stable.kept (λ y i out. unblocked C D T y stable (h.below y i) (chosen_wanted A p T stable y i out)) in
      let le : length (C H) ≤ length (C (union T H)) = m.choice.sizes H (union T H) h (IsSetBelow-union (length D.owners) T H stable.placement.set h) (IsIn-union_right T H) in
      let a : length (C H) ≡ length H = ap length (chosen-chosen (length D.owners) C m.choice A p.set) in
      let b : length (C (union T H)) ≡ length T = ap length all in
      omega arith

  -- whom a stable placement places an optimal one places
  optimal_places : (H T : List ℕ) → IsOptimal (Takes C) D H → IsStable (Takes C) D T → (x : ℕ) → IsIn x T → (y : ℕ) × IsIn y H × (owner D y ≡ owner D x) × (at D (owner D x) H ≡ Some y)
  optimal_places H T o stable x i =
      ⊎_elim
      (λ h. h)
      (λ none. absurd (no_better C D H o T stable (owner D x) (gain D (owner D x) T H x None (contract_is D (owner D x) T x stable.placement.once i refl) none.1 (stable.placement.listed x i))))
      (cases_contract D (owner D x) H)

  -- a doctor with a chosen contract, once nobody has one left, has one in each stable placement
  stable_places : (A : List ℕ) → IsProgress C D A → IsSpent C D A → (T : List ℕ) → IsStable (Takes C) D T → (y : ℕ) → IsIn y (C A) → (x : ℕ) × IsIn x T × (owner D x ≡ owner D y)
  stable_places A p spent T stable y j =
      let h = hits_all (found D (C A)) T (C A) stable.placement.set.ascending (m.choice.ascending A p.set)
      (λ x i. let q = spot x i in subst (λ z. IsIn z (C A)) (sym q.3) q.1)
      (λ x z i k e. let a = spot x i in let b = spot z k in
      stable.placement.once x z i k (sym a.2 ∙ ap (owner D) (sym a.3 ∙ (e ∙ b.3)) ∙ b.2))
      (chosen_shorter A p T stable) y j in
      let q = spot h.0 h.1 in
      (h.0, h.1, sym q.2 ∙ ap (owner D) (sym q.3 ∙ h.2))
    where
      spot : (x : ℕ) → IsIn x T → (z : ℕ) × IsIn z (C A) × (owner D z ≡ owner D x) × (found D (C A) x ≡ z)
      spot x i = let q = optimal_places (C A) T (spent_optimal C D m A p spent) stable x i in (q.0, q.1, q.2, found_is D (C A) x q.0 q.3)

  same_as_spent : (A : List ℕ) → IsProgress C D A → IsSpent C D A → (T : List ℕ) → IsStable (Takes C) D T → (d : ℕ) → has_place D d T ≡ has_place D d (C A)
  same_as_spent A p spent T stable d =
      same_tests (has_place D d T) (has_place D d (C A))
      (λ placed. let t = from_placed D d T placed in
      let h = optimal_places (C A) T (spent_optimal C D m A p spent) stable t.0 t.1 in
      placed_from D d (C A) h.0 h.1 (h.2 ∙ t.2))
      (λ placed. let h = from_placed D d (C A) placed in
      let t = stable_places A p spent T stable h.0 h.1 in
      placed_from D d T t.0 t.1 (t.2 ∙ h.2))

  pub same_placed : (S T : List ℕ) → IsStable (Takes C) D S → IsStable (Takes C) D T → (d : ℕ) → has_place D d S ≡ has_place D d T
  same_placed S T a b d =
      let f = final C D m in
      let p : IsProgress C D (offered_so_far D f.0) = f.1.progress in
      let spent : IsSpent C D (offered_so_far D f.0) = closed_spent C D m f.0 f.1 f.2 in
      same_as_spent (offered_so_far D f.0) p spent S a d ∙ sym (same_as_spent (offered_so_far D f.0) p spent T b d)
