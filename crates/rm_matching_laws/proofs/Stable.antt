-- Stable and optimal sets by what doctors want, told by places.
use Rattle.std.proofs.Common.{◌≡◌, ℕ, suc, ◌<◌, List, [], ◌∷◌, false, not, length, get_or, eqb, refl, sym, ◌∙◌, subst, ⊎_elim, arith, Option, Some, None, eqb-true, eq-eqb, ne_eqb, true≢false}
use Rattle.std.proofs.lemmas.Bool.{cond-true, cond-false, eqb-false, cases_Bool, cases_lt, and_parts, and_from, not-true, not_from_false}
use Rattle.std.proofs.lemmas.List.{get_or_past}
use Rattle.std.proofs.lemmas.List.Elements.{All-from_recursion, All-get_or}
use Rattle.std.specs.List.{IsDistinct}
use Rattle.std.specs.Prelude.{IsTrue}
use Rattle.rm_sets.specs.Sets.{has, IsIn, IsSetBelow, IsWithin, with_one}
use Rattle.rm_sets.proofs.Sets.{IsIn-here, IsIn-later, IsIn-cases, same_within, not_both}
use Rattle.rm_sets.proofs.Members.{not_in_nil}
use Rattle.rm_market.specs.Board.{stands_before}
use Rattle.rm_market.specs.Best.{IsChoice}
use Rattle.rm_market.specs.Stable.{Wishes, owner, list_of, at, prefers, prefers_place, wants, IsStable, IsOptimal, Takes}
use Rattle.rm_market.specs.Laws.{IsListOf}
use Rattle.rm_matching_laws.proofs.Places.{place, place-lt, place_read, cases_place, contract_is, cases_contract, Prefers, PrefersPlace, Wants, IsSingle, gain}

-- a lawful choice among the contracts, and lists of each doctor's own ones
pub record AreLawful (C : List ℕ → List ℕ) (D : Wishes) : Type 0 where
  pub choice : IsChoice (length D.owners) C
  pub lists : (d : ℕ) → IsListOf D d (list_of D d)

-- ---- a list's order, as a test and by places

before_from_places : (x y : ℕ) (L : List ℕ) → IsIn x L → IsIn y L → place x L < place y L → IsTrue (stands_before x y L)
before_from_places x y [] i j lt = absurd (not_in_nil x i)
before_from_places x y (z ∷ L) i j lt =
    ⊎_elim
    (λ e.
    let same : x ≡ z = sym (eqb-true z x e) in
    let zx : place x (z ∷ L) ≡ 0 = cond-true (eqb x z) 0 (suc (place x L)) (eq-eqb x z same) in
    let ne : y ≡ z → ⊥ = λ h. let zy : place y (z ∷ L) ≡ 0 = cond-true (eqb y z) 0 (suc (place y L)) (eq-eqb y z h) in omega arith in
    cond-true (eqb z x) (has y L) (stands_before x y L) e ∙ ⊎_elim (λ h. absurd (ne h)) (λ h. h) (IsIn-cases y z L j))
    (λ ne.
    let apart : x ≡ z → ⊥ = λ h. eqb-false z x ne (sym h) in
    let later : IsIn x L = ⊎_elim (λ h. absurd (apart h)) (λ h. h) (IsIn-cases x z L i) in
    let zx : place x (z ∷ L) ≡ suc (place x L) = cond-false (eqb x z) 0 (suc (place x L)) (ne_eqb x z apart) in
    let ny : y ≡ z → ⊥ = λ h. let zy : place y (z ∷ L) ≡ 0 = cond-true (eqb y z) 0 (suc (place y L)) (eq-eqb y z h) in omega arith in
    let zy : place y (z ∷ L) ≡ suc (place y L) = cond-false (eqb y z) 0 (suc (place y L)) (ne_eqb y z ny) in
    let there : IsIn y L = ⊎_elim (λ h. absurd (ny h)) (λ h. h) (IsIn-cases y z L j) in
    cond-false (eqb z x) (has y L) (stands_before x y L) ne ∙ before_from_places x y L later there (omega arith))
    (cases_Bool (eqb z x))

pub distinct_head : (z : ℕ) (L : List ℕ) → IsDistinct eqb (z ∷ L) → IsIn z L → ⊥
unfolding IsDistinct
distinct_head z L h i = eqb-false z (get_or L (place z L) 0) (All-get_or (λ a. eqb z a ≡ false) L (place z L) 0 (place-lt z L i) (All-from_recursion (λ a. eqb z a ≡ false) L h.0)) (sym (place_read z L 0 i))

places_from_before : (x y : ℕ) (L : List ℕ) → IsDistinct eqb L → IsTrue (stands_before x y L) → IsIn x L × IsIn y L × (place x L < place y L)
unfolding IsDistinct
places_from_before x y [] h e = absurd (not_in_nil x e)
places_from_before x y (z ∷ L) h e =
    ⊎_elim
    (λ t.
    let same : x ≡ z = sym (eqb-true z x t) in
    let there : IsIn y L = sym (cond-true (eqb z x) (has y L) (stands_before x y L) t) ∙ e in
    let apart : y ≡ z → ⊥ = λ s. distinct_head z L h (subst (λ a. IsIn a L) s there) in
    let zx : place x (z ∷ L) ≡ 0 = cond-true (eqb x z) 0 (suc (place x L)) (eq-eqb x z same) in
    let zy : place y (z ∷ L) ≡ suc (place y L) = cond-false (eqb y z) 0 (suc (place y L)) (ne_eqb y z apart) in
    (subst (λ a. IsIn a (z ∷ L)) (sym same) (IsIn-here z L), IsIn-later y z L there, omega arith))
    (λ t.
    let r = places_from_before x y L h.1 (sym (cond-false (eqb z x) (has y L) (stands_before x y L) t) ∙ e) in
    let lt : place x L < place y L = r.2 in
    let nx : x ≡ z → ⊥ = λ s. eqb-false z x t (sym s) in
    let ny : y ≡ z → ⊥ = λ s. distinct_head z L h (subst (λ a. IsIn a L) s r.1) in
    let zx : place x (z ∷ L) ≡ suc (place x L) = cond-false (eqb x z) 0 (suc (place x L)) (ne_eqb x z nx) in
    let zy : place y (z ∷ L) ≡ suc (place y L) = cond-false (eqb y z) 0 (suc (place y L)) (ne_eqb y z ny) in
    (IsIn-later x z L r.0, IsIn-later y z L r.1, omega arith))
    (cases_Bool (eqb z x))

-- ---- preferring

module _ (D : Wishes) where
  prefers_from : (d x : ℕ) (p : Option ℕ) → Prefers D d x p → IsTrue (prefers D d x p)
  prefers_from d x None h = h
  prefers_from d x (Some y) h = before_from_places x y (list_of D d) h.0 h.1 h.2

  pub prefers_place_from : (d : ℕ) (q p : Option ℕ) → PrefersPlace D d q p → IsTrue (prefers_place D d q p)
  prefers_place_from d None p h = absurd h
  prefers_place_from d (Some x) p h = prefers_from d x p h

  from_prefers : (d x : ℕ) (p : Option ℕ) → IsDistinct eqb (list_of D d) → IsTrue (prefers D d x p) → Prefers D d x p
  from_prefers d x None k h = h
  from_prefers d x (Some y) k h = places_from_before x y (list_of D d) k h

  pub from_prefers_place : (d : ℕ) (q p : Option ℕ) → IsDistinct eqb (list_of D d) → IsTrue (prefers_place D d q p) → PrefersPlace D d q p
  from_prefers_place d None p k h = absurd (true≢false (sym h))
  from_prefers_place d (Some x) p k h = from_prefers d x p k h

  listed_of : (d x : ℕ) (p : Option ℕ) → Prefers D d x p → IsIn x (list_of D d)
  listed_of d x None h = h
  listed_of d x (Some y) h = h.0

  pub wants_test : (S : List ℕ) (x : ℕ) → Wants D S x → IsTrue (wants D S x)
  wants_test S x w =
      and_from (not (has x S)) (prefers D (owner D x) x (at D (owner D x) S)) (not_from_false (has x S) w.absent)
      (prefers_from (owner D x) x (at D (owner D x) S) w.prefers)

  pub from_wants : (S : List ℕ) (x : ℕ) → IsDistinct eqb (list_of D (owner D x)) → IsTrue (wants D S x) → Wants D S x
  from_wants S x k h =
      let both = and_parts (not (has x S)) (prefers D (owner D x) x (at D (owner D x) S)) h in
      let p : Prefers D (owner D x) x (at D (owner D x) S) = from_prefers (owner D x) x (at D (owner D x) S) k both.1 in
      record { listed = listed_of (owner D x) x (at D (owner D x) S) p; absent = not-true (has x S) both.0; prefers = p }

-- ---- stable and optimal sets

module _ (C : List ℕ → List ℕ) (D : Wishes) where
  pub unblocked : (S : List ℕ) (x : ℕ) → IsStable (Takes C) D S → x < length D.owners → Wants D S x → C (with_one S x) ≡ S
  unblocked S x s lt w = s.unblocked x lt (wants_test D S x w)

  pub stable_from : AreLawful C D → (S : List ℕ) → IsSetBelow (length D.owners) S → IsSingle D S → ((x : ℕ) → IsIn x S → IsIn x (list_of D (owner D x))) → C S ≡ S → ((x : ℕ) → x < length D.owners → Wants D S x → C (with_one S x) ≡ S) → IsStable (Takes C) D S
  stable_from m S set single listed kept apart = record {
    placement = record { set = set; once = single; listed = listed };
    kept = kept;
    unblocked = λ x lt h. apart x lt (from_wants D S x (m.lists (owner D x)).distinct h);
  }

  pub no_better : (S : List ℕ) → IsOptimal (Takes C) D S → (T : List ℕ) → IsStable (Takes C) D T → (d : ℕ) → PrefersPlace D d (at D d T) (at D d S) → ⊥
  no_better S o T t d h =
      ⊎_elim
      (λ lt. not_both (prefers_place D d (at D d T) (at D d S)) (prefers_place_from D d (at D d T) (at D d S) h) (o.best_for_all T d t lt))
      (λ past. nobody (at D d T) (at D d S) (get_or_past D.listed d [] past) h)
      (cases_lt d (length D.listed))
    where
      nobody : (q p : Option ℕ) → list_of D d ≡ [] → PrefersPlace D d q p → ⊥
      nobody None p e h = h
      nobody (Some x) p e h = not_in_nil x (subst (IsIn x) e (listed_of D d x p h))

  pub optimal_from : AreLawful C D → (S : List ℕ) → IsStable (Takes C) D S → ((T : List ℕ) → IsStable (Takes C) D T → (d : ℕ) → PrefersPlace D d (at D d T) (at D d S) → ⊥) → IsOptimal (Takes C) D S
  optimal_from m S s best = record {
    stable = s;
    best_for_all = λ T d t lt.
        ⊎_elim
        (λ yes. absurd (best T t d (from_prefers_place D d (at D d T) (at D d S) (m.lists d).distinct yes)))
        (λ no. no)
        (cases_Bool (prefers_place D d (at D d T) (at D d S)));
  }

  -- ---- at most one set is optimal

  optimal_within : (S T : List ℕ) → IsOptimal (Takes C) D S → IsOptimal (Takes C) D T → IsWithin S T
  optimal_within S T s t x i =
      let d : ℕ = owner D x in
      let e : at D d S ≡ Some x = contract_is D d S x s.stable.placement.once i refl in
      let listed : IsIn x (list_of D d) = s.stable.placement.listed x i in
      ⊎_elim
      (λ h.
      let there : IsIn h.0 (list_of D d) = subst (λ k. IsIn h.0 (list_of D k)) h.2 (t.stable.placement.listed h.0 h.1) in
      ⊎_elim
      (λ lt. absurd (no_better T t S s.stable d (gain D d S T x (Some h.0) e h.3 (listed, there, lt))))
      (λ le. ⊎_elim
      (λ same. subst (λ z. IsIn z T) (sym same) h.1)
      (λ gt. absurd (no_better S s T t.stable d (gain D d T S h.0 (Some x) h.3 e (there, listed, gt))))
      le)
      (cases_place x h.0 (list_of D d) listed there))
      (λ h. absurd (no_better T t S s.stable d (gain D d S T x None e h.1 listed)))
      (cases_contract D d T)

  pub optimal_is_one : (S T : List ℕ) → IsOptimal (Takes C) D S → IsOptimal (Takes C) D T → S ≡ T
  optimal_is_one S T s t = same_within S T s.stable.placement.set.ascending t.stable.placement.set.ascending (optimal_within S T s t) (optimal_within T S t s)
