-- The place of an item in a list.
use Rattle.std.proofs.Common.{◌≡◌, ℕ, ◌<◌, List, length, get_or, Bool, true, false, cond, nat_lt, Option, Some, None, inl, inr, arith}
use Rattle.std.specs.Bool.{◌==◌}
use Rattle.std.specs.List.{position, position_or_len}
use Rattle.std.proofs.lemmas.Bool.{cases_lt}
use Rattle.std.proofs.lemmas.Bool.Decides.{nat_tests}
use Rattle.std.proofs.lemmas.List.Sums.{fails_before_first, passes_at_first}
use Rattle.rm_sets.specs.Sets.{IsIn}
use Rattle.rm_sets.proofs.Members.{place_from_IsIn}

-- where an item is found is its place
pub place_told : {X : Type 0} (p : X → Bool) (xs : List X) (k : ℕ) → position p xs ≡ Some k → k ≡ position_or_len p xs
place_told p xs k e = told (nat_lt (position_or_len p xs) (length xs)) e where
  told : (b : Bool) → cond b (Some (position_or_len p xs)) None ≡ Some k → k ≡ position_or_len p xs
  told true e = cc
  told false e = absurd (cc)

-- a member stands at its place
pub placed : (xs : List ℕ) (x : ℕ) → IsIn x xs
    → (position_or_len (λ z. z == x) xs < length xs) × (get_or xs (position_or_len (λ z. z == x) xs) 0 ≡ x)
placed xs x there =
    let at = place_from_IsIn xs x 0 there in
    let lt : position_or_len (λ z. z == x) xs < length xs = elim (cases_lt (position_or_len (λ z. z == x) xs) (length xs)) [
      | inl less ↦ less
      | inr past ↦
          let miss = fails_before_first (λ z. z == x) xs at.0 0 (omega (arith, at.1, past)) in
          let same = at.2 in
          absurd (grind (arith, nat_tests, miss, same))
    ] in
    let hit = passes_at_first (λ z. z == x) xs 0 lt in
    (lt, grind (arith, nat_tests, hit))
