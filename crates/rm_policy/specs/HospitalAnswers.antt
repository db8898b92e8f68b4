-- The steps of hospitals, by the items of their entries.
use Rattle.std.specs.Prelude.{ℕ, ◌+◌, ◌-◌, List, ℤ, Option, option_and_then, slice_get}

-- the steps of an item, where so many items stand before those of the steps
abbrev pub steps_at : List (List ℤ) → ℕ → Option ℕ → Option (List ℤ)
steps_at steps first item = option_and_then (λ i. slice_get steps (i - (first + 1))) item
