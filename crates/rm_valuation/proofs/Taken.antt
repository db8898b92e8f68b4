-- The first members of a list: as a set, one more at a time, and as far as a search has come.
use Rattle.std.proofs.Common.{◌≡◌, ℕ, zero, suc, ◌+◌, ◌<◌, ◌≤◌, List, [], ◌∷◌, ◌++◌, length, get_or, take, Bool, true, false, MatchResult, Result, Ok, Err, Some, None, refl, sym, ap, subst, ⊎_elim, arith, add-one, ◌∙◌}
use Rattle.std.proofs.lemmas.Bool.{cond_both, cases_lt}
use Rattle.std.proofs.lemmas.List.{take_more}
use Rattle.std.specs.Prelude.{find, is_ok}
use Rattle.rm_sets.specs.Sets.{has, IsIn, IsSet, IsSetBelow, minus, with_one}
use Rattle.rm_sets.proofs.Sets.{IsIn-here, IsIn-later, IsIn-cases, IsSet-nil, IsSet-cons, IsSet-tail, IsSet-first, same_within, IsSet-with_one, IsSet-push, IsIn-with_one_cases}
use Rattle.rm_sets.proofs.Members.{not_in_nil, not_in_from, IsIn-from_minus, IsIn-append_left, IsIn-append_right, IsIn-append_cases, IsIn-get_or, IsIn-with_one_new, IsIn-with_one_old, place_from_IsIn}

-- ---- sets

pub in_take : (k : ℕ) (S : List ℕ) (x : ℕ) → IsIn x (take k S) → IsIn x S
in_take zero S x i = absurd (not_in_nil x i)
in_take (suc k) [] x i = absurd (not_in_nil x i)
in_take (suc k) (y ∷ S) x i = ⊎_elim (λ e. subst (λ z. IsIn z (y ∷ S)) (sym e) (IsIn-here y S)) (λ j. IsIn-later x y S (in_take k S x j)) (IsIn-cases x y (take k S) i)

pub IsSet-take : (k : ℕ) (S : List ℕ) → IsSet S → IsSet (take k S)
IsSet-take zero S s = IsSet-nil
IsSet-take (suc k) [] s = IsSet-nil
IsSet-take (suc k) (y ∷ S) s = IsSet-cons y (take k S) (λ z i. IsSet-first y S s z (in_take k S z i)) (IsSet-take k S (IsSet-tail y S s))

pub below_take : (n k : ℕ) (S : List ℕ) → IsSetBelow n S → IsSetBelow n (take k S)
below_take n k S s = record { ascending = IsSet-take k S s.ascending; below = λ x i. s.below x (in_take k S x i) }

pub below_next : (k : ℕ) (S : List ℕ) (x : ℕ) → IsSet S → k < length S → IsIn x (take k S) → x < get_or S k 0
below_next k [] x s lt i = absurd (omega arith)
below_next zero (y ∷ S) x s lt i = absurd (not_in_nil x i)
below_next (suc k) (y ∷ S) x s lt i =
    ⊎_elim
    (λ e. subst (λ z. z < get_or S k 0) (sym e) (IsSet-first y S s (get_or S k 0) (IsIn-get_or S k 0 (omega arith))))
    (λ j. below_next k S x (IsSet-tail y S s) (omega arith) j)
    (IsIn-cases x y (take k S) i)

pub new_next : (k : ℕ) (S : List ℕ) → IsSet S → k < length S → has (get_or S k 0) (take k S) ≡ false
new_next k S s lt = not_in_from (get_or S k 0) (take k S) (λ i. let up = below_next k S (get_or S k 0) s lt i in omega arith)

pub with_last : (S : List ℕ) (x : ℕ) → IsSet S → ((y : ℕ) → IsIn y S → y < x) → with_one S x ≡ S ++ x ∷ []
with_last S x s up =
    same_within (with_one S x) (S ++ x ∷ []) (IsSet-with_one S x s) (IsSet-push S x s up)
    (λ y i. ⊎_elim (λ old. IsIn-append_left S (x ∷ []) y old) (λ e. subst (λ z. IsIn z (S ++ x ∷ [])) (sym e) (IsIn-append_right S (x ∷ []) x (IsIn-here x []))) (IsIn-with_one_cases y S x i))
    (λ y i. ⊎_elim
    (λ old. IsIn-with_one_old S x y old)
    (λ one. ⊎_elim (λ e. subst (λ z. IsIn z (with_one S x)) (sym e) (IsIn-with_one_new S x)) (λ none. absurd (not_in_nil y none)) (IsIn-cases y x [] one))
    (IsIn-append_cases S (x ∷ []) y i))

pub take_with_next : (k : ℕ) (S : List ℕ) → IsSet S → k < length S → take (k + 1) S ≡ with_one (take k S) (get_or S k 0)
take_with_next k S s lt = take_more S k 0 lt ∙ sym (with_last (take k S) (get_or S k 0) (IsSet-take k S s) (λ y i. below_next k S y s lt i))

pub increasing : (S : List ℕ) (j k : ℕ) → IsSet S → j < k → k < length S → get_or S j 0 < get_or S k 0
increasing [] j k s lt l = absurd (omega arith)
increasing (y ∷ S) zero zero s lt l = absurd (omega arith)
increasing (y ∷ S) zero (suc k) s lt l = IsSet-first y S s (get_or S k 0) (IsIn-get_or S k 0 (omega arith))
increasing (y ∷ S) (suc j) zero s lt l = absurd (omega arith)
increasing (y ∷ S) (suc j) (suc k) s lt l = increasing S j k (IsSet-tail y S s) (omega arith) (omega arith)

pub rising : (S : List ℕ) → IsSet S → (i j : ℕ) → i ≤ j → j < length S → get_or S i 0 ≤ get_or S j 0
rising S s i j le lt =
    ⊎_elim
    (λ l. let up = increasing S i j s l lt in omega arith)
    (λ g. let e : i ≡ j = omega arith in let same : get_or S i 0 ≡ get_or S j 0 = ap (λ k. get_or S k 0) e in omega (arith, same))
    (cases_lt i j)

-- what a search among ascending numbers finds is a member
pub found_is : (S : List ℕ) (x : ℕ) (r : Result ℕ ℕ) → IsSet S →
    MatchResult r (λ i. (i < length S) × (get_or S i 0 ≡ x)) (λ i. (i ≤ length S) × ((k : ℕ) → k < i → get_or S k 0 < x) × ((k : ℕ) → i ≤ k → k < length S → x < get_or S k 0)) → is_ok r ≡ has x S
found_is S x (Ok i) s h = sym (subst (λ y. IsIn y S) h.1 (IsIn-get_or S i 0 h.0))
found_is S x (Err i) s h = sym (not_in_from x S (λ m.
    let p = place_from_IsIn S x 0 m in
    ⊎_elim
    (λ l. let less = h.1 p.0 l in let e = p.2 in omega (arith, less, e))
    (λ g. let less = h.2 p.0 g p.1 in let e = p.2 in omega (arith, less, e))
    (cases_lt p.0 i)))

pub outside : (L X S : List ℕ) → L ≡ minus X S → (x : ℕ) → IsIn x L → has x S ≡ false
outside L X S e x i = (IsIn-from_minus X S x (subst (IsIn x) e i)).1

-- ---- searches

none_next : (p : ℕ → Bool) (k : ℕ) (S : List ℕ) → k < length S → find p (take k S) ≡ None → p (get_or S k 0) ≡ false → find p (take (suc k) S) ≡ None
none_next p k [] lt none f = absurd (omega arith)
none_next p zero (y ∷ S) lt none f = rw f refl
none_next p (suc k) (y ∷ S) lt none f =
    cond_both (p y) (Some y) (find p (take k S)) (λ o. o ≡ None → find p (take (suc (suc k)) (y ∷ S)) ≡ None)
    (λ t e. absurd cc)
    (λ g e. rw g (none_next p k S (omega arith) e f))
    none

pub none_more : (p : ℕ → Bool) (k : ℕ) (S : List ℕ) → k < length S → find p (take k S) ≡ None → p (get_or S k 0) ≡ false → find p (take (k + 1) S) ≡ None
none_more p k S lt none f = rw (add-one k) (none_next p k S lt none f)

pub some_here : (p : ℕ → Bool) (k : ℕ) (S : List ℕ) → k < length S → find p (take k S) ≡ None → p (get_or S k 0) ≡ true → find p S ≡ Some (get_or S k 0)
some_here p k [] lt none t = absurd (omega arith)
some_here p zero (y ∷ S) lt none t = rw t refl
some_here p (suc k) (y ∷ S) lt none t =
    cond_both (p y) (Some y) (find p (take k S)) (λ o. o ≡ None → find p (y ∷ S) ≡ Some (get_or S k 0))
    (λ u e. absurd cc)
    (λ g e. rw g (some_here p k S (omega arith) e t))
    none

pub some_stays : (p : ℕ → Bool) (S T : List ℕ) (x : ℕ) → find p S ≡ Some x → find p (S ++ T) ≡ Some x
some_stays p [] T x e = absurd cc
some_stays p (y ∷ S) T x e =
    cond_both (p y) (Some y) (find p S) (λ o. o ≡ Some x → find p (y ∷ (S ++ T)) ≡ Some x)
    (λ t e. rw t e)
    (λ f e. rw f (some_stays p S T x e))
    e

pub some_last : (p : ℕ → Bool) (S : List ℕ) (x : ℕ) → find p S ≡ None → p x ≡ true → find p (S ++ x ∷ []) ≡ Some x
some_last p [] x e t = rw t refl
some_last p (y ∷ S) x e t =
    cond_both (p y) (Some y) (find p S) (λ o. o ≡ None → find p (y ∷ (S ++ x ∷ [])) ≡ Some x)
    (λ u e. absurd cc)
    (λ f e. rw f (some_last p S x e t))
    e

pub up_to_next : (p : ℕ → Bool) (S : List ℕ) (k : ℕ) → ((j : ℕ) → j < k → p (get_or S j 0) ≡ false) → p (get_or S k 0) ≡ false → (j : ℕ) → j < k + 1 → p (get_or S j 0) ≡ false
up_to_next p S k before now j lt =
    ⊎_elim
    (λ less. before j less)
    (λ le. let e : k ≡ j = omega arith in subst (λ n. p (get_or S n 0) ≡ false) e now)
    (cases_lt j k)
