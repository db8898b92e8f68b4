-- Marks of the contracts of a set.
use Rattle.std.proofs.Common.{◌≡◌, ℕ, ◌<◌, ◌≤◌, List, [], length, get_or, set, eqb, filter, sym, ap, subst, ⊎_elim, arith, ◌∙◌}
use Rattle.std.proofs.lemmas.List.{get_or-set_same, get_or-set_other}
use Rattle.std.proofs.lemmas.Bool.{cases_eq}
use Rattle.rm_sets.specs.Sets.{has, IsSet, IsWithin, with_one}
use Rattle.rm_sets.proofs.Sets.{same_within, same_tests, IsSet-filter, IsIn-with_one_cases}
use Rattle.rm_sets.proofs.Members.{IsIn-filter, IsIn-from_filter, IsIn-with_one_new, IsIn-with_one_old, place_from_IsIn}
use Rattle.rm_greedy.specs.Additions.{AreMarks}

pub marked_is : (X S marks : List ℕ) → IsSet X → IsSet S → IsWithin S X → AreMarks X S marks → filter (λ x. eqb (get_or marks x 0) 1) X ≡ S
marked_is X S marks sX sS w m =
    same_within (filter (λ x. eqb (get_or marks x 0) 1) X) S (IsSet-filter (λ x. eqb (get_or marks x 0) 1) X sX) sS
    (λ x i. let p = IsIn-from_filter (λ y. eqb (get_or marks y 0) 1) X x i in m x p.0 ∙ p.1)
    (λ x i. IsIn-filter (λ y. eqb (get_or marks y 0) 1) X x (w x i) (sym (m x (w x i)) ∙ i))

pub one_marked : (X S marks : List ℕ) (x : ℕ) → x < length marks → AreMarks X S marks → AreMarks X (with_one S x) (set marks x 1)
one_marked X S marks x lt m = λ y i.
    ⊎_elim
    (λ e. subst (λ z. has z (with_one S x) ≡ eqb (get_or (set marks x 1) z 0) 1) (sym e) (IsIn-with_one_new S x ∙ sym (ap (λ k. eqb k 1) (get_or-set_same marks x 1 0 lt))))
    (λ ne. same_tests (has y (with_one S x)) (has y S)
    (λ h. ⊎_elim (λ old. old) (λ e. absurd (ne e)) (IsIn-with_one_cases y S x h))
    (λ h. IsIn-with_one_old S x y h)
    ∙ m y i ∙ sym (ap (λ k. eqb k 1) (get_or-set_other marks x y 1 0 ne)))
    (cases_eq y x)

pub cleared : (X marks : List ℕ) (i : ℕ) → ((k : ℕ) → k < i → get_or marks (get_or X k 0) 0 ≡ 0) → length X ≤ i → AreMarks X [] marks
cleared X marks i zero past = λ x h.
    let p = place_from_IsIn X x 0 h in
    let lt = p.1 in
    sym (ap (λ n. eqb n 1) (subst (λ y. get_or marks y 0 ≡ 0) p.2 (zero p.0 (omega (arith, lt, past)))))
