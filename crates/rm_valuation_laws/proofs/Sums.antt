-- Sums over nodes, over the numbers below m, and over a list of different node numbers.
use Rattle.std.specs.List.{IsDistinct}
use Rattle.std.proofs.Common.{◌≡◌, ℕ, zero, suc, ◌<◌, List, [], ◌∷◌, Bool, true, false, ◌||◌, length, map, get_or, eqb, ℤ, pos, ◌+ℤ◌, refl, sym, ap, ◌∙◌, subst, ⊎_elim, arith, eqb-true, eq-eqb, ne_eqb}
use Rattle.std.proofs.lemmas.Int.{ints}
use Rattle.std.proofs.lemmas.Bool.{cases_eq}
use Rattle.rm_sets.specs.Sets.{has, IsIn}
use Rattle.rm_sets.proofs.Once.{distinct_first, distinct_rest}
use Rattle.rm_sets.proofs.Sets.{not_both, IsIn-here, IsIn-later}
use Rattle.rm_market.specs.Board.{int_sum}
use Rattle.rm_valuation_laws.specs.Changes.{on, sum_upto}

pub sum_upto_same : (m : ℕ) (g h : ℕ → ℤ) → ((k : ℕ) → k < m → g k ≡ h k) → sum_upto m g ≡ sum_upto m h
sum_upto_same zero g h e = refl
sum_upto_same (suc m) g h e =
    let rest = sum_upto_same m g h (λ k lt. e k (omega arith)) in
    let here = e m (omega arith) in
    omega (arith, ints)

pub sum_upto_zero : (m : ℕ) → sum_upto m (λ k. pos 0) ≡ pos 0
sum_upto_zero zero = refl
sum_upto_zero (suc m) = let rest = sum_upto_zero m in omega (arith, ints)

pub sum_upto_add : (m : ℕ) (g h : ℕ → ℤ) → sum_upto m (λ k. g k +ℤ h k) ≡ sum_upto m g +ℤ sum_upto m h
sum_upto_add zero g h = refl
sum_upto_add (suc m) g h = let rest = sum_upto_add m g h in omega (arith, ints)

sum_upto_first : (m : ℕ) (g : ℕ → ℤ) → sum_upto (suc m) g ≡ g 0 +ℤ sum_upto m (λ k. g (suc k))
sum_upto_first zero g = omega (arith, ints)
sum_upto_first (suc m) g = let rest = sum_upto_first m g in omega (arith, ints)

-- a sum over a list, by the places
pub sum_by_place : {X : Type 0} (g : X → ℤ) (d : X) (xs : List X) → int_sum (map g xs) ≡ sum_upto (length xs) (λ k. g (get_or xs k d))
sum_by_place g d [] = refl
sum_by_place g d (x ∷ xs) =
    let rest = sum_by_place g d xs in
    let first = sum_upto_first (length xs) (λ k. g (get_or (x ∷ xs) k d)) in
    omega (arith, ints)

-- one number alone
pub sum_upto_one : (m x : ℕ) (g : ℕ → ℤ) → x < m → sum_upto m (λ k. on (eqb k x) (g k)) ≡ g x
sum_upto_one zero x g lt = absurd (omega arith)
sum_upto_one (suc m) x g lt =
    ⊎_elim
    (λ e.
    let none = sum_upto_same m (λ k. on (eqb k x) (g k)) (λ k. pos 0) (λ k l. ap (λ b. on b (g k)) (ne_eqb k x (omega arith))) ∙ sum_upto_zero m in
    let here : on (eqb m x) (g m) ≡ g x = ap (λ b. on b (g m)) (eq-eqb m x e) ∙ ap g e in
    omega (arith, ints))
    (λ ne.
    let rest = sum_upto_one m x g (omega arith) in
    let here : on (eqb m x) (g m) ≡ pos 0 = ap (λ b. on b (g m)) (ne_eqb m x ne) in
    omega (arith, ints))
    (cases_eq m x)

pub on_or : (a b : Bool) (z : ℤ) → (a ≡ true → b ≡ true → ⊥) → on (a || b) z ≡ on a z +ℤ on b z
on_or true true z f = absurd (f refl refl)
on_or true false z f = omega (arith, ints)
on_or false true z f = omega (arith, ints)
on_or false false z f = refl

-- a sum over different numbers below m
pub sum_of_once : (m : ℕ) (g : ℕ → ℤ) (ks : List ℕ) → IsDistinct eqb ks → ((k : ℕ) → IsIn k ks → k < m) → int_sum (map g ks) ≡ sum_upto m (λ k. on (has k ks) (g k))
sum_of_once m g [] once below = sym (sum_upto_zero m)
sum_of_once m g (x ∷ ks) once below =
    let rest = sum_of_once m g ks (distinct_rest x ks once) (λ k h. below k (IsIn-later k x ks h)) in
    let one = sum_upto_one m x g (below x (IsIn-here x ks)) in
    let split = sum_upto_same m (λ k. on (has k (x ∷ ks)) (g k)) (λ k. on (eqb k x) (g k) +ℤ on (has k ks) (g k))
    (λ k lt. on_or (eqb k x) (has k ks) (g k) (λ e h. not_both (has x ks) (subst (λ z. IsIn z ks) (eqb-true k x e) h) (distinct_first x ks once))) in
    let add = sum_upto_add m (λ k. on (eqb k x) (g k)) (λ k. on (has k ks) (g k)) in
    omega (arith, ints)

-- a sum over a list whose members are those below its length that pass the test
pub sum_by_members : {X : Type 0} (g : X → ℤ) (d : X) (p : X → Bool) (xs : List X) (ks : List ℕ) → IsDistinct eqb ks → ((k : ℕ) → IsIn k ks → k < length xs) → ((k : ℕ) → k < length xs → has k ks ≡ p (get_or xs k d)) →
    int_sum (map (λ x. on (p x) (g x)) xs) ≡ int_sum (map (λ k. g (get_or xs k d)) ks)
sum_by_members g d p xs ks once below same =
    sum_by_place (λ x. on (p x) (g x)) d xs
    ∙ (sum_upto_same (length xs) (λ k. on (p (get_or xs k d)) (g (get_or xs k d))) (λ k. on (has k ks) (g (get_or xs k d))) (λ k lt. ap (λ b. on b (g (get_or xs k d))) (sym (same k lt)))
    ∙ sym (sum_of_once (length xs) (λ k. g (get_or xs k d)) ks once below))
