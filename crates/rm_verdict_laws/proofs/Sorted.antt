-- A list that is put in order stands in order, and what a search finds first there comes before all else that passes.
use Rattle.std.proofs.Common.{◌≡◌, ◌⊎◌, ℕ, List, [], ◌∷◌, Bool, true, Some, sym, subst, inl, inr, ⊎_elim}
use Rattle.std.proofs.lemmas.Bool.{cond_both}
use Rattle.std.specs.Prelude.{find}
use Rattle.rm_sets.specs.Sets.{IsIn}
use Rattle.rm_sets.proofs.Sets.{IsIn-here, IsIn-later, IsIn-cases, not_both}
use Rattle.rm_sets.proofs.Members.{not_in_nil}
use Rattle.rm_market.specs.Tree.{put, in_order}

-- x comes before y
abbrev pub Before : (ℕ → ℕ → Bool) → ℕ → ℕ → Type 0
Before first x y = (x ≡ y) ⊎ (first x y ≡ true)

-- among the numbers of one kind the test is transitive and total
pub record IsOrderOf (P : ℕ → Type 0) (first : ℕ → ℕ → Bool) : Type 0 where
  pub transitive : (x y z : ℕ) → P x → P y → P z → first x y ≡ true → first y z ≡ true → first x z ≡ true
  pub total : (x y : ℕ) → P x → P y → (x ≡ y) ⊎ ((first x y ≡ true) ⊎ (first y x ≡ true))

abbrev IsInOrder : (ℕ → ℕ → Bool) → List ℕ → Type 0
IsInOrder first [] = Unit {0}
IsInOrder first (x ∷ xs) = ((y : ℕ) → IsIn y xs → Before first x y) × IsInOrder first xs

put_members : (first : ℕ → ℕ → Bool) (x : ℕ) (ys : List ℕ) (z : ℕ) → IsIn z (put first x ys) → (z ≡ x) ⊎ IsIn z ys
put_members first x [] z i = ⊎_elim (λ e. inl e) (λ j. absurd (not_in_nil z j)) (IsIn-cases z x [] i)
put_members first x (y ∷ ys) z i =
    cond_both (first x y) (x ∷ (y ∷ ys)) (y ∷ put first x ys) (λ L. IsIn z L → (z ≡ x) ⊎ IsIn z (y ∷ ys))
    (λ t i. IsIn-cases z x (y ∷ ys) i)
    (λ f i. ⊎_elim
    (λ e. inr (subst (λ w. IsIn w (y ∷ ys)) (sym e) (IsIn-here y ys)))
    (λ j. ⊎_elim (λ e. inl e) (λ k. inr (IsIn-later z y ys k)) (put_members first x ys z j))
    (IsIn-cases z y (put first x ys) i))
    i

put_old : (first : ℕ → ℕ → Bool) (x : ℕ) (ys : List ℕ) (z : ℕ) → IsIn z (x ∷ ys) → IsIn z (put first x ys)
put_old first x [] z i = i
put_old first x (y ∷ ys) z i =
    cond_both (first x y) (x ∷ (y ∷ ys)) (y ∷ put first x ys) (λ L. IsIn z L)
    (λ t. i)
    (λ f. ⊎_elim
    (λ e. IsIn-later z y (put first x ys) (put_old first x ys z (subst (λ w. IsIn w (x ∷ ys)) (sym e) (IsIn-here x ys))))
    (λ j. ⊎_elim
    (λ e. subst (λ w. IsIn w (y ∷ put first x ys)) (sym e) (IsIn-here y (put first x ys)))
    (λ k. IsIn-later z y (put first x ys) (put_old first x ys z (IsIn-later z x ys k)))
    (IsIn-cases z y ys j))
    (IsIn-cases z x (y ∷ ys) i))

pub order_members : (first : ℕ → ℕ → Bool) (xs : List ℕ) (z : ℕ) → IsIn z (in_order first xs) → IsIn z xs
order_members first [] z i = i
order_members first (x ∷ xs) z i =
    ⊎_elim
    (λ e. subst (λ w. IsIn w (x ∷ xs)) (sym e) (IsIn-here x xs))
    (λ j. IsIn-later z x xs (order_members first xs z j))
    (put_members first x (in_order first xs) z i)

pub order_keeps : (first : ℕ → ℕ → Bool) (xs : List ℕ) (z : ℕ) → IsIn z xs → IsIn z (in_order first xs)
order_keeps first [] z i = i
order_keeps first (x ∷ xs) z i =
    put_old first x (in_order first xs) z
    (⊎_elim
    (λ e. subst (λ w. IsIn w (x ∷ in_order first xs)) (sym e) (IsIn-here x (in_order first xs)))
    (λ j. IsIn-later z x (in_order first xs) (order_keeps first xs z j))
    (IsIn-cases z x xs i))

before_trans : (P : ℕ → Type 0) (first : ℕ → ℕ → Bool) (x y z : ℕ) → IsOrderOf P first → P x → P y → P z → first x y ≡ true → Before first y z → Before first x z
before_trans P first x y z o px py pz t h = ⊎_elim (λ e. inr (subst (λ w. first x w ≡ true) e t)) (λ u. inr (o.transitive x y z px py pz t u)) h

put_in_order : (P : ℕ → Type 0) (first : ℕ → ℕ → Bool) (x : ℕ) (ys : List ℕ) → IsOrderOf P first → P x → ((y : ℕ) → IsIn y ys → P y) → IsInOrder first ys → IsInOrder first (put first x ys)
put_in_order P first x [] o px each h = (λ y i. absurd (not_in_nil y i), tt)
put_in_order P first x (y ∷ ys) o px each h =
    let py = each y (IsIn-here y ys) in
    cond_both (first x y) (x ∷ (y ∷ ys)) (y ∷ put first x ys) (IsInOrder first)
    (λ t. (
      λ z i. ⊎_elim
          (λ e. inr (subst (λ w. first x w ≡ true) (sym e) t))
          (λ j. before_trans P first x y z o px py (each z i) t (h.0 z j))
          (IsIn-cases z y ys i),
      h,
    ))
    (λ f. (
      λ z i. ⊎_elim
          (λ e. subst (Before first y) (sym e) (⊎_elim (λ same. inl (sym same)) (λ rest. ⊎_elim (λ t. absurd (not_both (first x y) t f)) (λ u. inr u) rest) (o.total x y px py)))
          (λ j. h.0 z j)
          (put_members first x ys z i),
      put_in_order P first x ys o px (λ z i. each z (IsIn-later z y ys i)) h.1,
    ))

in_order_is : (P : ℕ → Type 0) (first : ℕ → ℕ → Bool) (xs : List ℕ) → IsOrderOf P first → ((x : ℕ) → IsIn x xs → P x) → IsInOrder first (in_order first xs)
in_order_is P first [] o each = tt
in_order_is P first (x ∷ xs) o each =
    put_in_order P first x (in_order first xs) o (each x (IsIn-here x xs))
    (λ y i. each y (IsIn-later y x xs (order_members first xs y i)))
    (in_order_is P first xs o (λ y i. each y (IsIn-later y x xs i)))

-- what a search finds in a list that is in order
first_in_order : (first : ℕ → ℕ → Bool) (p : ℕ → Bool) (xs : List ℕ) (k : ℕ) → IsInOrder first xs → find p xs ≡ Some k → IsIn k xs × (p k ≡ true) × ((j : ℕ) → IsIn j xs → p j ≡ true → Before first k j)
first_in_order first p [] k o e = absurd cc
first_in_order first p (x ∷ xs) k o e =
    cond_both (p x) (Some x) (find p xs) (λ r. r ≡ Some k → IsIn k (x ∷ xs) × (p k ≡ true) × ((j : ℕ) → IsIn j (x ∷ xs) → p j ≡ true → Before first k j))
    (λ t e.
    let same : x ≡ k = cc in
    subst (λ w. IsIn w (x ∷ xs) × (p w ≡ true) × ((j : ℕ) → IsIn j (x ∷ xs) → p j ≡ true → Before first w j)) same
    (IsIn-here x xs, t, λ j i u. ⊎_elim (λ e2. inl (sym e2)) (λ later. o.0 j later) (IsIn-cases j x xs i)))
    (λ f e.
    let rest = first_in_order first p xs k o.1 e in
    (IsIn-later k x xs rest.0, rest.1, λ j i u. ⊎_elim (λ e2. absurd (not_both (p x) (subst (λ w. p w ≡ true) e2 u) f)) (λ later. rest.2 j later u) (IsIn-cases j x xs i)))
    e

pub found_first : (P : ℕ → Type 0) (first : ℕ → ℕ → Bool) (p : ℕ → Bool) (xs : List ℕ) (k : ℕ) → IsOrderOf P first → ((x : ℕ) → IsIn x xs → P x) → find p (in_order first xs) ≡ Some k →
    IsIn k xs × (p k ≡ true) × ((j : ℕ) → IsIn j xs → p j ≡ true → Before first k j)
found_first P first p xs k o each e =
    let h = first_in_order first p (in_order first xs) k (in_order_is P first xs o each) e in
    (order_members first xs k h.0, h.1, λ j i t. h.2 j (order_keeps first xs j i) t)
