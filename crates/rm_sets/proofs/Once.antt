-- The numbers below n in order, and lists in which each number stands once.
use Rattle.std.proofs.Common.{◌≡◌, ℕ, zero, suc, false, ne_eqb, ◌<◌, List, [], ◌∷◌, ◌++◌, length, get_or, eqb, refl, sym, ◌∙◌, ap, subst, ⊎_elim, arith}
use Rattle.std.specs.List.{IsDistinct, AllByRecursion}
use Rattle.std.proofs.Math.ListN.{get_or-append}
use Rattle.std.proofs.Math.Seq.{get_or-append_seam}
use Rattle.std.proofs.lemmas.Bool.{cases_lt}
use Rattle.std.proofs.lemmas.List.{length-append}
use Rattle.std.proofs.lemmas.List.Elements.{recursion_from_All}
use Rattle.rm_sets.specs.Sets.{has, IsIn, IsSet, below}
use Rattle.rm_sets.proofs.Sets.{IsIn-here, IsIn-later, not_both, IsSet-tail, IsSet-first}
use Rattle.rm_sets.proofs.Members.{not_in_from, IsIn-append_cases, All-from_members, place_from_IsIn}

-- ---- the numbers below n

pub length-below : (n : ℕ) → length (below n) ≡ n
length-below zero = refl
length-below (suc n) = let e = length-append (below n) (n ∷ []) in let rest = length-below n in omega arith

pub get_or-below : (n k d : ℕ) → k < n → get_or (below n) k d ≡ k
get_or-below zero k d lt = absurd (omega arith)
get_or-below (suc n) k d lt =
    let l = length-below n in
    ⊎_elim
    (λ less. get_or-append (below n) (n ∷ []) d k (omega arith) ∙ get_or-below n k d less)
    (λ le.
    let e : k ≡ length (below n) = omega arith in
    ap (λ i. get_or (below n ++ n ∷ []) i d) e ∙ (get_or-append_seam (below n) n [] d ∙ (omega arith)))
    (cases_lt k n)

-- ---- each number once

pub distinct_more : (x : ℕ) (L : List ℕ) → has x L ≡ false → IsDistinct eqb L → IsDistinct eqb (x ∷ L)
unfolding IsDistinct
distinct_more x L out o = (recursion_from_All (λ y. eqb x y ≡ false) L (All-from_members (λ y. eqb x y ≡ false) L (λ y i. ne_eqb x y (λ e. not_both (has x L) (subst (λ z. IsIn z L) (sym e) i) out))), o)

pub distinct_none : IsDistinct eqb []
unfolding IsDistinct
distinct_none = tt

pub distinct_one : (x : ℕ) → IsDistinct eqb (x ∷ [])
unfolding IsDistinct
distinct_one x = distinct_more x [] refl tt

pub distinct_rest : (x : ℕ) (L : List ℕ) → IsDistinct eqb (x ∷ L) → IsDistinct eqb L
unfolding IsDistinct
distinct_rest x L o = o.1

unlike : (x : ℕ) (L : List ℕ) → AllByRecursion (λ y. eqb x y ≡ false) L → has x L ≡ false
unlike x [] a = refl
unlike x (y ∷ L) a = rw (a.0) (unlike x L a.1)

pub distinct_first : (x : ℕ) (L : List ℕ) → IsDistinct eqb (x ∷ L) → has x L ≡ false
unfolding IsDistinct
distinct_first x L o = unlike x L o.0

pub distinct_of_set : (S : List ℕ) → IsSet S → IsDistinct eqb S
distinct_of_set [] s = distinct_none
distinct_of_set (x ∷ S) s = distinct_more x S (not_in_from x S (λ i. let lt = IsSet-first x S s x i in absurd (omega arith))) (distinct_of_set S (IsSet-tail x S s))

pub distinct_append : (A B : List ℕ) → IsDistinct eqb A → IsDistinct eqb B → ((x : ℕ) → IsIn x A → IsIn x B → ⊥) → IsDistinct eqb (A ++ B)
distinct_append [] B a b h = b
distinct_append (x ∷ A) B a b h =
    distinct_more x (A ++ B)
    (not_in_from x (A ++ B) (λ i. ⊎_elim (λ j. not_both (has x A) j (distinct_first x A a)) (λ j. h x (IsIn-here x A) j) (IsIn-append_cases A B x i)))
    (distinct_append A B (distinct_rest x A a) b (λ y i j. h y (IsIn-later y x A i) j))

pub distinct_from_pairs : (L : List ℕ) → ((i j : ℕ) → i < j → j < length L → get_or L i 0 ≡ get_or L j 0 → ⊥) → IsDistinct eqb L
distinct_from_pairs [] h = distinct_none
distinct_from_pairs (a ∷ L) h =
    distinct_more a L (not_in_from a L (λ i. let p = place_from_IsIn L a 0 i in let lt = p.1 in h zero (suc p.0) (omega arith) (omega arith) (sym p.2)))
    (distinct_from_pairs L (λ i j lt ll. h (suc i) (suc j) (omega arith) (omega arith)))
