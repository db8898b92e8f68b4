-- Of private calls: the first swap that improves a choice, as far as the contracts to be displaced were looked at.
use Rattle.std.specs.Prelude.{◌≡◌, ℕ, ◌<◌, List, find, length, get_or, Option, Some, None, IsFalse}
use Rattle.rm_sets.specs.Sets.{IsIn}
use Rattle.rm_market.specs.Best.{Values, is_better, swapped}

-- no one of the first so many refused contracts is better in the place of a contract of Z
abbrev pub NoneBefore : Values → List ℕ → List ℕ → List ℕ → ℕ → Type 0
NoneBefore v S refused Z end = (j z : ℕ) → j < end → IsIn z Z → IsFalse (is_better v (swapped S (get_or refused j 0) z) S)

-- of the refused contracts, the first one that is better in the place of some contract of Z, and the first such contract of Z;
-- before it, by its place, none is
abbrev pub IsFirstSwap : Values → List ℕ → List ℕ → List ℕ → ℕ → Option (ℕ × ℕ) → Type 0
IsFirstSwap v S refused Z end (Some swap) =
    NoneBefore v S refused Z end × (end < length refused) × (get_or refused end 0 ≡ swap.0) × (find (λ z. is_better v (swapped S swap.0 z) S) Z ≡ Some swap.1)
IsFirstSwap v S refused Z end None = NoneBefore v S refused Z end × (end ≡ length refused)
