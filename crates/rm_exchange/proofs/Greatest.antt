-- The greatest number of a heap, as one comes or goes.
use Rattle.std.proofs.Common.{◌≡◌, ◌∙◌, ℕ, ◌<◌, ◌≤◌, List, [], ◌∷◌, true, length, get_or, Option, Some, None, sym, subst, ⊎_elim, arith, true≢false, Result, Ok, Err}
use Rattle.std.specs.Ordering.{nat_cmp}
use Rattle.std.specs.Prelude.{IfSome, IfNone, OnOk, is_ok}
use Rattle.std.specs.List.Sorted.{IsPermutation}
use Rattle.std.specs.BinaryHeap.{IsHeap, IsUpperBound, PopsGreatest}
use Rattle.std.proofs.lemmas.List.Sorted.{IsPermutation-sym, Contains-permutation, le_from_greatest}
use Rattle.rm_sets.specs.Sets.{IsIn}
use Rattle.rm_sets.proofs.Sets.{IsIn-here, IsIn-later, IsIn-cases}
use Rattle.rm_sets.proofs.Members.{not_in_nil, members_from_All, IsIn-get_or, IsIn-from_Contains, Contains-from_IsIn}
use Rattle.rm_exchange.specs.Leaves.{IsGreatest, IsGreatestOf}

in_permutation : (xs ys : List ℕ) (y : ℕ) → IsPermutation xs ys → IsIn y xs → IsIn y ys
in_permutation xs ys y p i = IsIn-from_Contains ys y (Contains-permutation xs ys y p (Contains-from_IsIn xs y i))

-- the top of a heap
pub top_greatest : (items : List ℕ) (x : ℕ) → 0 < length items → x ≡ get_or items 0 x → IsUpperBound nat_cmp x items → IsGreatest items x
top_greatest items x some top up = record { member = subst (λ w. IsIn w items) (sym top) (IsIn-get_or items 0 x some); greatest = members_from_All (λ w. w ≤ x) items (le_from_greatest x items up) }

-- one more, that is less
pub still_greatest : (old new : List ℕ) (x last : ℕ) → IsGreatest old last → x < last → IsPermutation (x ∷ old) new → IsGreatest new last
still_greatest old new x last k less p = record {
  member = in_permutation (x ∷ old) new last p (IsIn-later last x old k.member);
  greatest = λ y i. ⊎_elim
      (λ e. omega arith)
      (λ there. k.greatest y there)
      (IsIn-cases y x old (in_permutation new (x ∷ old) y (IsPermutation-sym (x ∷ old) new p) i));
}

-- one more, that is no less
none_above : (old : List ℕ) (x : ℕ) (o : Option ℕ) → IsGreatestOf old o → IfSome o (λ z. z ≤ x) → (y : ℕ) → IsIn y old → y ≤ x
none_above old x None k up y i = absurd (not_in_nil y (subst (λ S. IsIn y S) k i))
none_above old x (Some z) k up y i = let le = k.greatest y i in omega (arith, le, up)

pub no_more : (x : ℕ) (o : Option ℕ) (z : ℕ) → o ≡ Some z → z ≤ x → IfSome o (λ z. z ≤ x)
no_more x o z e le = subst (λ o. IfSome o (λ z. z ≤ x)) (sym e) le

pub none_before : (x : ℕ) (o : Option ℕ) → o ≡ None → IfSome o (λ z. z ≤ x)
none_before x o e = subst (λ o. IfSome o (λ z. z ≤ x)) (sym e) tt

pub new_greatest : (old new : List ℕ) (x : ℕ) (o : Option ℕ) → IsGreatestOf old o → IfSome o (λ z. z ≤ x) → IsPermutation (x ∷ old) new → IsGreatest new x
new_greatest old new x o k up p = record {
  member = in_permutation (x ∷ old) new x p (IsIn-here x old);
  greatest = λ y i. ⊎_elim
      (λ e. omega arith)
      (λ there. none_above old x o k up y there)
      (IsIn-cases y x old (in_permutation new (x ∷ old) y (IsPermutation-sym (x ∷ old) new p) i));
}

-- what is taken from the top is the greatest
pub taken_is : (old new : List ℕ) (z : ℕ) (o : Option ℕ) → IsHeap nat_cmp old → IfSome o (λ x. IsPermutation old (x ∷ new)) → IfSome o (λ x. PopsGreatest nat_cmp old x new) → IfNone o (length old ≡ 0) → IsIn z old → ((y : ℕ) → IsIn y old → y ≤ z) → IsPermutation old (z ∷ new)
taken_is old new z None order p top none inz up = absurd (some old z inz none)
  where
    some : (L : List ℕ) (y : ℕ) → IsIn y L → length L ≡ 0 → ⊥
    some [] y i l = not_in_nil y i
    some (x ∷ L) y i l = omega arith
taken_is old new z (Some x) order p top none inz up =
    let low = up x (in_permutation (x ∷ new) old x (IsPermutation-sym old (x ∷ new) p) (IsIn-here x new)) in
    let high = members_from_All (λ w. w ≤ x) old (le_from_greatest x old (top order).1) z inz in
    let e : x ≡ z = omega (arith, low, high) in
    subst (λ w. IsPermutation old (w ∷ new)) e p

-- and what stays was there
pub still_there : (old new : List ℕ) (rest : Type 0) (o : Option ℕ) → IfSome o (λ x. IsPermutation old (x ∷ new)) → IfNone o ((new ≡ old) × rest) → (y : ℕ) → IsIn y new → IsIn y old
still_there old new rest None p same y i = subst (λ S. IsIn y S) same.0 i
still_there old new rest (Some x) p same y i = in_permutation (x ∷ new) old y (IsPermutation-sym old (x ∷ new) p) (IsIn-later y x new i)

pub greatest_below : (items : List ℕ) (n : ℕ) (o : Option ℕ) → IsGreatestOf items o → ((y : ℕ) → IsIn y items → y < n) → IfSome o (λ x. x < n)
greatest_below items n None k below = tt
greatest_below items n (Some x) k below = below x k.member

pub from_on_ok : {A E : Type 0} (P : Type 0) (r : Result A E) → is_ok r ≡ true → OnOk r P → P
from_on_ok P (Ok a) e p = p
from_on_ok P (Err a) e p = absurd (true≢false (sym e))

pub none_there : (n : ℕ) (L : List ℕ) (o : Option ℕ) → n ≡ length L → IfNone o (n ≡ 0) → IfNone o (length L ≡ 0)
none_there n L None e none = sym e ∙ none
none_there n L (Some x) e none = tt
