-- What two arrays tell of the doctors: how many listed contracts each has spent, and which contract of his is held.
use Rattle.std.specs.Prelude.{◌≡◌, ℕ, ◌<◌, List, [], Option, Some, None, is_some, IsSome, get_or, slice_get, if◌then◌else◌}

-- the contract that d offers next
abbrev pub next_told : List (List ℕ) → List ℕ → List (Option ℕ) → ℕ → Option ℕ
next_told listed spent places d = if is_some (get_or places d None) then None else slice_get (get_or listed d []) (get_or spent d 0)

-- the least of the first n doctors who has something to offer, or nobody has
abbrev pub IsFirst : (ℕ → Option ℕ) → ℕ → Option ℕ → Type 0
IsFirst next n None = (d : ℕ) → d < n → next d ≡ None
IsFirst next n (Some d) = (d < n) × IsSome (next d) × ((e : ℕ) → e < d → next e ≡ None)
