-- Sums over lists in which each number stands once.
use Rattle.std.proofs.Common.{◌≡◌, ◌≢◌, eqb, ◌∙◌, ◌+◌, ◌<◌, ◌||◌, ◌==◌, ℕ, zero, suc, Bool, false, cond, List, [], ◌∷◌, map, inl, inr, refl, sym, ap, arith}
use Rattle.std.specs.Prelude.{sum_by}
use Rattle.std.specs.List.{IsDistinct}
use Rattle.std.proofs.lemmas.Bool.{cases_eq, ne_eqb, eq-eqb}
use Rattle.std.proofs.lemmas.List.{append-nil}
use Rattle.std.proofs.lemmas.List.Sums.{sum_by-append, sum_by-cons}
use Rattle.rm_sets.specs.Sets.{all_below, has, IsIn, IsSetBelow}
use Rattle.rm_sets.proofs.Members.{all_below_has}
use Rattle.rm_sets.proofs.Once.{distinct_first, distinct_rest}
use Rattle.rm_sets.proofs.Sets.{IsIn-here, IsIn-later}

pub sum_by_map : {X Y : Type 0} (f : Y → ℕ) (g : X → Y) (L : List X) → sum_by f (map g L) ≡ sum_by (λ x. f (g x)) L
sum_by_map f g [] = refl
sum_by_map f g (x ∷ L) = sum_by-cons f (g x) (map g L) ∙ ap (λ (n : ℕ). f (g x) + n) (sum_by_map f g L) ∙ sym (sum_by-cons (λ y. f (g y)) x L)

all_below_same : (n : ℕ) (p q : ℕ → Bool) → ((k : ℕ) → k < n → p k ≡ q k) → all_below n p ≡ all_below n q
all_below_same zero p q same = refl
all_below_same (suc n) p q same = rw (all_below_same n p q (λ k lt. same k (omega (arith, lt))), same n (omega arith)) refl

none_below : (n : ℕ) → all_below n (λ k. false) ≡ []
none_below zero = refl
none_below (suc n) = rw (none_below n) refl

-- one number more
sum_more : (f : ℕ → ℕ) (p : ℕ → Bool) (n x : ℕ) → p x ≡ false → x < n → sum_by f (all_below n (λ k. (k == x) || p k)) ≡ f x + sum_by f (all_below n p)
sum_more f p zero x out lt = absurd (omega (arith, lt))
sum_more f p (suc n) x out lt =
    let more = λ (k : ℕ). (k == x) || p k in
    elim (cases_eq n x) [
      | inl same ↦
          let rest : all_below n more ≡ all_below n p = all_below_same n more p (λ k low. let other : k ≢ x = λ e. absurd (omega (arith, low, e, same)) in rw (ne_eqb k x other) refl) in
          let last : p n ≡ false = ap p same ∙ out in
          let one : sum_by f (n ∷ []) ≡ f n + 0 = sum_by-cons f n [] in
          rw (rest, eq-eqb n x same, last, append-nil (all_below n p)) (omega (arith, sum_by-append f (all_below n p) (n ∷ []), one, ap f same))
      | inr other ↦
          let tail = cond (p n) (n ∷ []) [] in
          let rest = sum_more f p n x out (omega (arith, lt, other)) in
          rw (ne_eqb n x other) (omega (arith, rest, sum_by-append f (all_below n more) tail, sum_by-append f (all_below n p) tail))
    ]

sum_below : (f : ℕ → ℕ) (n : ℕ) (L : List ℕ) → IsDistinct eqb L → ((k : ℕ) → IsIn k L → k < n) → sum_by f L ≡ sum_by f (all_below n (λ k. has k L))
sum_below f n [] once low = ap (sum_by f) (sym (none_below n))
sum_below f n (x ∷ L) once low =
    sum_by-cons f x L
    ∙ ap (λ (m : ℕ). f x + m) (sum_below f n L (distinct_rest x L once) (λ k i. low k (IsIn-later k x L i)))
    ∙ sym (sum_more f (λ k. has k L) n x (distinct_first x L once) (low x (IsIn-here x L)))

-- a list of the numbers of a set, each once, has the sum of the set
pub sum_alike : (f : ℕ → ℕ) (n : ℕ) (L S : List ℕ) → IsDistinct eqb L → IsSetBelow n S → ((k : ℕ) → has k L ≡ has k S) → sum_by f L ≡ sum_by f S
sum_alike f n L S once set same =
    sum_below f n L once (λ k i. set.below k (sym (same k) ∙ i))
    ∙ ap (sum_by f) (all_below_same n (λ k. has k L) (λ k. has k S) (λ k lt. same k) ∙ all_below_has n S set)
