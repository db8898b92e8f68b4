-- A hospital with one post that takes the first of what is offered.
use Rattle.std.proofs.Common.{◌≡◌, ℕ, ◌<◌, ◌≤◌, List, [], ◌∷◌, length, take, refl, sym, ap, subst, min, ⊎_elim, ◌∙◌, arith}
use Rattle.std.proofs.Math.Nat.{min-le_left}
use Rattle.rm_sets.specs.Sets.{IsIn, IsSet, IsSetBelow, IsWithin}
use Rattle.rm_sets.proofs.Sets.{IsIn-here, IsIn-cases, IsSet-nil, IsSet-cons, IsSet-first}
use Rattle.rm_sets.proofs.Members.{not_in_nil}
use Rattle.rm_sets.proofs.Sizes.{length_below}
use Rattle.rm_market.specs.Best.{IsChoice}

pub in_one : (x y : ℕ) → IsIn x (y ∷ []) → x ≡ y
in_one x y i = ⊎_elim (λ e. e) (λ j. absurd (not_in_nil x j)) (IsIn-cases x y [] i)

least_first : (a : ℕ) (A : List ℕ) → IsSet (a ∷ A) → (x : ℕ) → IsIn x (a ∷ A) → a ≤ x
least_first a A set x i = ⊎_elim (λ e. rw e (omega arith)) (λ j. let lt = IsSet-first a A set x j in omega (arith, lt)) (IsIn-cases x a A i)

first_ascending : (X : List ℕ) → IsSet (take 1 X)
first_ascending [] = IsSet-nil
first_ascending (a ∷ A) = IsSet-cons a [] (λ y i. absurd (not_in_nil y i)) IsSet-nil

first_within : (X : List ℕ) → IsWithin (take 1 X) X
first_within [] x i = i
first_within (a ∷ A) x i = subst (λ y. IsIn y (a ∷ A)) (sym (in_one x a i)) (IsIn-here a A)

same_first : (a b : ℕ) (A B : List ℕ) → IsSet (a ∷ A) → IsSet (b ∷ B) → IsWithin (a ∷ A) (b ∷ B) → IsIn b (a ∷ A) → a ≡ b
same_first a b A B set other w i =
    let low = least_first a A set b i in
    let high = least_first b B other a (w a (IsIn-here a A)) in
    omega (arith, low, high)

first_same : (X Y : List ℕ) → IsSet X → IsSet Y → IsWithin X Y → IsWithin (take 1 Y) X → take 1 X ≡ take 1 Y
first_same [] [] set other w v = refl
first_same [] (b ∷ B) set other w v = absurd (not_in_nil b (v b (IsIn-here b [])))
first_same (a ∷ A) [] set other w v = absurd (not_in_nil a (w a (IsIn-here a A)))
first_same (a ∷ A) (b ∷ B) set other w v = ap (λ x. x ∷ []) (same_first a b A B set other w (v b (IsIn-here b [])))

first_kept : (X Y : List ℕ) → IsSet X → IsSet Y → IsWithin X Y → (x : ℕ) → IsIn x X → IsIn x (take 1 Y) → IsIn x (take 1 X)
first_kept [] Y set other w x i j = absurd (not_in_nil x i)
first_kept (a ∷ A) [] set other w x i j = absurd (not_in_nil x j)
first_kept (a ∷ A) (b ∷ B) set other w x i j =
    let e : x ≡ b = in_one x b j in
    subst (λ y. IsIn y (a ∷ [])) (same_first a b A B set other w (subst (λ y. IsIn y (a ∷ A)) e i) ∙ sym e) (IsIn-here a [])

first_sizes : (X Y : List ℕ) → IsWithin X Y → length (take 1 X) ≤ length (take 1 Y)
first_sizes [] Y w = omega arith
first_sizes (a ∷ A) [] w = absurd (not_in_nil a (w a (IsIn-here a A)))
first_sizes (a ∷ A) (b ∷ B) w = omega arith

pub first_is_lawful : (n : ℕ) → IsChoice n (take 1)
first_is_lawful n = record {
  ascending = λ X set. first_ascending X;
  within = λ X set. first_within X;
  same = λ X Y set other w v. first_same X Y set.ascending other.ascending w v;
  kept = λ X Y set other w x i j. first_kept X Y set.ascending other.ascending w x i j;
  sizes = λ X Y set other w. first_sizes X Y w;
}

-- a room that fits has room for one contract, where one is offered
pub room_for_one : (n list marks room : ℕ) → min list marks ≡ room → n ≤ room → (X : List ℕ) → IsSetBelow n X → 0 < length X → 0 < list
room_for_one n list marks room is fits X set some = let most = length_below n X set in let low = min-le_left list marks in omega (arith, is, fits, most, low, some)
