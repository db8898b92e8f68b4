-- Members and sizes after an addition, a removal and a swap.
use Rattle.std.proofs.Common.{◌≡◌, ℕ, ◌<◌, List, Bool, true, false, not, ◌&&◌, ◌||◌, refl, ap, ◌∙◌, subst, ne_eqb}
use Rattle.rm_sets.specs.Sets.{has, IsIn, IsSetBelow, IsWithin, with_one, without}
use Rattle.rm_sets.proofs.Sets.{has-with_one, has-without, not_both}
use Rattle.rm_sets.proofs.Members.{IsIn-with_one_new, not_in_without, IsSetBelow-with_one, IsSetBelow-without, with_one_within, without_within, within_trans}
use Rattle.rm_market.specs.Best.{swapped}

or_false : (b : Bool) → (b || false) ≡ b
or_false true = refl
or_false false = refl

and_true : (b : Bool) → (b && true) ≡ b
and_true true = refl
and_true false = refl

-- ---- members

pub with_other : (S : List ℕ) (y x : ℕ) → (x ≡ y → ⊥) → has x (with_one S y) ≡ has x S
with_other S y x ne = has-with_one S y x ∙ ap (λ b. has x S || b) (ne_eqb x y ne) ∙ or_false (has x S)

pub without_other : (S : List ℕ) (y x : ℕ) → (x ≡ y → ⊥) → has x (without S y) ≡ has x S
without_other S y x ne = has-without S y x ∙ ap (λ b. has x S && not b) (ne_eqb x y ne) ∙ and_true (has x S)

pub swapped_new : (S : List ℕ) (i j : ℕ) → has j (swapped S j i) ≡ true
swapped_new S i j = IsIn-with_one_new (without S i) j

pub swapped_old : (S : List ℕ) (i j : ℕ) → (i ≡ j → ⊥) → has i (swapped S j i) ≡ false
swapped_old S i j ne = with_other (without S i) j i ne ∙ not_in_without S i

pub swapped_other : (S : List ℕ) (i j x : ℕ) → (x ≡ i → ⊥) → (x ≡ j → ⊥) → has x (swapped S j i) ≡ has x S
swapped_other S i j x ni nj = with_other (without S i) j x nj ∙ without_other S i x ni

-- a member and a contract outside are two
pub apart : (S : List ℕ) (i j : ℕ) → IsIn i S → has j S ≡ false → i ≡ j → ⊥
apart S i j h out e = not_both (has j S) (subst (λ x. IsIn x S) e h) out

-- ---- sets again

pub IsSetBelow-swapped : (n : ℕ) (S : List ℕ) (i j : ℕ) → IsSetBelow n S → j < n → IsSetBelow n (swapped S j i)
IsSetBelow-swapped n S i j s lt = IsSetBelow-with_one n (without S i) j (IsSetBelow-without n S i s) lt

pub swapped_within : (S X : List ℕ) (i j : ℕ) → IsWithin S X → IsIn j X → IsWithin (swapped S j i) X
swapped_within S X i j w h = with_one_within (without S i) X j (within_trans (without S i) S X (without_within S i) w) h

pub smaller_within : (S X : List ℕ) (i : ℕ) → IsWithin S X → IsWithin (without S i) X
smaller_within S X i w = within_trans (without S i) S X (without_within S i) w
