-- A set with one more contract, and what was chosen of it.
use Rattle.std.proofs.Common.{◌≡◌, ℕ, suc, zero, ◌<◌, ◌≤◌, List, [], ◌∷◌, Bool, true, false, not, cond, length, take, drop, get_or, find, insert, eqb, ltb, Some, None, refl, sym, ap, ◌∙◌, subst, ⊎_elim, arith, eqb-true, ne_eqb}
use Rattle.std.specs.List.{list_any}
use Rattle.std.proofs.lemmas.Bool.{cond-true, cond-false, cond_both, or_parts, or_from, lt-ltb, le-ltb, not_from_true, eq-eqb}
use Rattle.rm_sets.specs.Sets.{has, IsSet, IsSetBelow, IsWithin, with_one}
use Rattle.rm_sets.proofs.Sets.{IsIn-here, IsIn-later, IsIn-cases, same_tests, IsSet-tail, IsSet-first}
use Rattle.rm_sets.proofs.Members.{IsIn-get_or, not_in_from, IsSetBelow-with_one, IsSetBelow-nil, not_in_nil}
use Rattle.rm_sets.proofs.Sizes.{length-with_one, length_below}
use Rattle.rm_market.specs.Best.{IsChoice}
use Rattle.rm_market.specs.Machine.{outcome_of, outcome_from, IsOutcome}
use Rattle.rm_market.specs.declared.Outcome.{Outcome}
use Rattle.rm_market.specs.declared.Outcome.TheVariants as out
use Rattle.rm_matching_laws.proofs.PathIndependence.{IsSetBelow-chosen, chosen-chosen}
use Rattle.rm_matching_laws.proofs.Tests.{outcome_is}
use Rattle.rm_choice.specs.Size.{Space, Fits, IsAsLarge}
use Rattle.rm_choice.specs.Holding.{IsReady}

-- ---- a member among others

same_number : (x y : ℕ) → eqb y x ≡ eqb x y
same_number x y = same_tests (eqb y x) (eqb x y) (λ e. eq-eqb x y (sym (eqb-true y x e))) (λ e. eq-eqb y x (sym (eqb-true x y e)))

pub has-list_any : (x : ℕ) (S : List ℕ) → list_any (λ y. eqb y x) S ≡ has x S
has-list_any x [] = refl
has-list_any x (y ∷ S) = rw (same_number x y, has-list_any x S) refl

-- where all before place i are at most x, and the next is above x, x goes to place i
pub insert_place : (S : List ℕ) (x i : ℕ) → has x S ≡ false → ((k : ℕ) → k < i → get_or S k 0 ≤ x) → i ≤ length S → (i < length S → x < get_or S i 0) → insert S i x ≡ with_one S x
insert_place [] x i new before le next = let e : i ≡ 0 = omega (arith, le) in rw e refl
insert_place (y ∷ S) x zero new before le next =
    sym (cond-true (ltb x y) (x ∷ y ∷ S) (cond (eqb x y) (y ∷ S) (y ∷ with_one S x)) (lt-ltb x y (next (omega arith))))
insert_place (y ∷ S) x (suc i) new before le next =
    let parts = or_parts (eqb x y) (has x S) new in
    let below : y ≤ x = before 0 (omega arith) in
    ap (λ (L : List ℕ). y ∷ L) (insert_place S x i parts.1 (λ k lt. before (suc k) (omega (arith, lt))) (omega (arith, le)) (λ lt. next (omega (arith, lt))))
    ∙ sym (cond-false (ltb x y) (x ∷ y ∷ S) (cond (eqb x y) (y ∷ S) (y ∷ with_one S x)) (le-ltb x y below)
    ∙ cond-false (eqb x y) (y ∷ S) (y ∷ with_one S x) parts.0)

-- ---- the first that passes a test

pub find-here : (p : ℕ → Bool) (S : List ℕ) (i : ℕ) → i < length S → p (get_or S i 0) ≡ true → find p (drop i S) ≡ Some (get_or S i 0)
find-here p [] i lt e = absurd (omega (arith, lt))
find-here p (y ∷ S) zero lt e = cond-true (p y) (Some y) (find p S) e
find-here p (y ∷ S) (suc i) lt e = find-here p S i (omega (arith, lt)) e

pub find-later : (p : ℕ → Bool) (S : List ℕ) (i : ℕ) → i < length S → p (get_or S i 0) ≡ false → find p (drop i S) ≡ find p (drop (suc i) S)
find-later p [] i lt e = absurd (omega (arith, lt))
find-later p (y ∷ S) zero lt e = cond-false (p y) (Some y) (find p S) e
find-later p (y ∷ S) (suc i) lt e = find-later p S i (omega (arith, lt)) e

find-with_one : (p : ℕ → Bool) (S : List ℕ) (x : ℕ) → p x ≡ false → find p (with_one S x) ≡ find p S
find-with_one p [] x e = cond-false (p x) (Some x) None e
find-with_one p (y ∷ S) x e =
    cond_both (ltb x y) (x ∷ y ∷ S) (cond (eqb x y) (y ∷ S) (y ∷ with_one S x)) (λ L. find p L ≡ find p (y ∷ S))
    (λ _. cond-false (p x) (Some x) (find p (y ∷ S)) e)
    (λ _. cond_both (eqb x y) (y ∷ S) (y ∷ with_one S x) (λ L. find p L ≡ find p (y ∷ S))
    (λ _. refl)
    (λ _. ap (λ o. cond (p y) (Some y) o) (find-with_one p S x e)))

-- ---- the first difference of a set and a part of it

-- where the two agree before place i, and the part ends or differs there, the part lacks what the set has there
pub lacks : (i : ℕ) (S X : List ℕ) → IsSet S → IsSet X → IsWithin X S → take i S ≡ take i X → i < length S → i ≤ length X → (i < length X → get_or X i 0 ≡ get_or S i 0 → ⊥) → has (get_or S i 0) X ≡ false
lacks i [] X s x within same lt le differ = absurd (omega (arith, lt))
lacks zero (y ∷ S) [] s x within same lt le differ = refl
lacks zero (y ∷ S) (z ∷ X) s x within same lt le differ =
    not_in_from y (z ∷ X) (λ i. ⊎_elim
    (λ e. differ (omega arith) (sym e))
    (λ later.
    let above : z < y = IsSet-first z X x y later in
    ⊎_elim (λ e. omega (arith, e, above)) (λ j. let below : y < z = IsSet-first y S s z j in omega (arith, below, above)) (IsIn-cases z y S (within z (IsIn-here z X))))
    (IsIn-cases y z X i))
lacks (suc i) (y ∷ S) [] s x within same lt le differ = absurd (omega (arith, le))
lacks (suc i) (y ∷ S) (z ∷ X) s x within same lt le differ =
    let head : y ≡ z = ap (λ L. get_or L 0 0) same in
    let rest : take i S ≡ take i X = ap (λ L. drop 1 L) same in
    let lt2 : i < length S = omega (arith, lt) in
    let inside : IsWithin X S = λ w j. ⊎_elim (λ e. let above : z < w = IsSet-first z X x w j in absurd (omega (arith, e, above, head))) (λ k. k) (IsIn-cases w y S (within w (IsIn-later w z X j))) in
    let below : y < get_or S i 0 = IsSet-first y S s (get_or S i 0) (IsIn-get_or S i 0 lt2) in
    or_from (eqb (get_or S i 0) z) (has (get_or S i 0) X)
    (ne_eqb (get_or S i 0) z (λ e. omega (arith, e, below, head)))
    (lacks i S X (IsSet-tail y S s) (IsSet-tail z X x) inside rest lt2 (omega (arith, le)) (λ l e. differ (omega (arith, l)) e))

-- ---- offers

none_from_within : (S : List ℕ) → IsWithin S [] → S ≡ []
none_from_within [] within = refl
none_from_within (y ∷ S) within = absurd (not_in_nil y (within y (IsIn-here y S)))

-- the outcome, read off the set with the new contract
pub outcome_with_one : (H : List ℕ) (x : ℕ) (new : List ℕ) → outcome_of (with_one H x) x new ≡ outcome_of H x new
outcome_with_one H x new = by (has x new) refl
  where
    by : (t : Bool) → has x new ≡ t → cond t (outcome_from (find (λ z. not (has z new)) (with_one H x))) out.Refused ≡ cond t (outcome_from (find (λ z. not (has z new)) H)) out.Refused
    by true e = ap outcome_from (find-with_one (λ z. not (has z new)) H x (not_from_true (has x new) e))
    by false e = refl

module _ (n nodes : ℕ) (C : List ℕ → List ℕ) (law : IsChoice n C) (H : List ℕ) (cap : ℕ) (room : Space) (ready : IsReady n nodes C H cap room) (x : ℕ) (lt : x < n) (new : has x H ≡ false) where
  pub set_with_one : IsSetBelow n (with_one H x)
  set_with_one = IsSetBelow-with_one n H x ready.set lt

  pub has_space : length H < cap
  has_space = let a = length-with_one H x new in let b = length_below n (with_one H x) set_with_one in let s = ready.space in omega (arith, a, b, s)

  pub set_chosen : IsSetBelow n (C (with_one H x))
  set_chosen = IsSetBelow-chosen n C law (with_one H x) set_with_one

  pub has_space_again : length (C (with_one H x)) ≤ cap
  has_space_again = let b = length_below n (C (with_one H x)) set_chosen in let s = ready.space in omega (arith, b, s)

  pub ready_again : (cap2 : ℕ) (room2 : Space) → cap ≤ cap2 → IsAsLarge room room2 → IsReady n nodes C (C (with_one H x)) cap2 room2
  ready_again cap2 room2 le large =
      record {
        set = set_chosen;
        settled = chosen-chosen n C law (with_one H x) set_with_one;
        space = let s = ready.space in omega (arith, s, le);
        fits = let f = ready.fits in let l = large in (omega (arith, f.0, l.0), omega (arith, f.1, l.1));
      }

  outcome_right : IsOutcome H x (C (with_one H x)) (outcome_of (with_one H x) x (C (with_one H x)))
  outcome_right = subst (IsOutcome H x (C (with_one H x))) (sym (outcome_with_one H x (C (with_one H x)))) (outcome_is n C H x law ready.set lt ready.settled new)

  pub outcome_read : (held offered chosen : List ℕ) (o : Outcome) → held ≡ C (with_one H x) → offered ≡ with_one H x → chosen ≡ C (with_one H x) → o ≡ outcome_of offered x chosen → IsOutcome H x held o
  outcome_read held offered chosen o h w e is =
      subst (λ K. IsOutcome H x K o) (sym h) (subst (IsOutcome H x (C (with_one H x))) (sym (is ∙ ap (λ K. outcome_of K x chosen) w ∙ ap (λ K. outcome_of (with_one H x) x K) e)) outcome_right)

-- two lists that agree before place i and there
pub take_again : (i : ℕ) (S X : List ℕ) → take i S ≡ take i X → i < length S → i < length X → get_or S i 0 ≡ get_or X i 0 → take (suc i) S ≡ take (suc i) X
take_again i [] X same lt lx here = absurd (omega (arith, lt))
take_again i (y ∷ S) [] same lt lx here = absurd (omega (arith, lx))
take_again zero (y ∷ S) (z ∷ X) same lt lx here = ap (λ (w : ℕ). w ∷ []) here
take_again (suc i) (y ∷ S) (z ∷ X) same lt lx here =
    let head : y ≡ z = ap (λ L. get_or L 0 0) same in
    rw (head, take_again i S X (ap (λ L. drop 1 L) same) (omega (arith, lt)) (omega (arith, lx)) here) refl

-- what was chosen, as it is read
pub chosen_list : (C : List ℕ → List ℕ) (k : ℕ) (read list offered items W : List ℕ) → read ≡ list → take k list ≡ C offered → offered ≡ items → items ≡ W → take k read ≡ C W
chosen_list C k read list offered items W r e o w = ap (take k) r ∙ e ∙ ap C (o ∙ w)

-- at first nothing is held
pub ready_first : (n nodes : ℕ) (C : List ℕ → List ℕ) → IsChoice n C → (items : List ℕ) (cap : ℕ) (room : Space) → items ≡ [] → cap ≡ n → Fits n nodes room → IsReady n nodes C items cap room
ready_first n nodes C law items cap room none e fits =
    subst (λ L. IsReady n nodes C L cap room) (sym none) (record {
      set = IsSetBelow-nil n;
      settled = none_from_within (C []) (law.within [] (IsSetBelow-nil n));
      space = omega (arith, e);
      fits = fits;
    })
