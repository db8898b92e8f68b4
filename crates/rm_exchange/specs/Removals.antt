-- Of private calls: removals of held contracts, and the cheapest of some.
use Rattle.std.specs.Prelude.{◌≡◌, ◌⊎◌, ℕ, ◌+◌, ◌*◌, ◌^◌, ◌<◌, ◌≤◌, Bool, ◌&&◌, ◌||◌, nat_le, List, length, get_or, ◌<ℤ◌, int_lt, Option, Some, None, if◌then◌else◌}
use Rattle.std.specs.Ordering.{int_eq}
use Rattle.rm_exchange.specs.declared.removal.Removal.{Removal}

-- to remove the first loses less than to remove the second, or as much, and it isn't before the second in tie order
abbrev pub IsNoDearer : Removal → Removal → Type 0
IsNoDearer a c = (a.loss <ℤ c.loss) ⊎ ((a.loss ≡ c.loss) × (c.tie ≤ a.tie))

-- the cheaper one of two
abbrev pub is_no_dearer : Removal → Removal → Bool
is_no_dearer a c = int_lt a.loss c.loss || (int_eq a.loss c.loss && nat_le c.tie a.tie)

abbrev pub cheapest : Option Removal → Option Removal → Option Removal
cheapest None second = second
cheapest (Some a) None = Some a
cheapest (Some a) (Some c) = if is_no_dearer a c then Some a else Some c

-- a rival that is no dearer than any other
pub record IsCheapestRival (rivals : List (Option Removal)) (best : Removal) : Type 0 where
  pub rival : (i : ℕ) × (i < length rivals) × (get_or rivals i None ≡ Some best)
  pub least : (i : ℕ) (c : Removal) → get_or rivals i None ≡ Some c → IsNoDearer best c

-- the cheapest of the rivals, or that all are empty
abbrev pub IsCheapestOf : List (Option Removal) → Option Removal → Type 0
IsCheapestOf rivals (Some best) = IsCheapestRival rivals best
IsCheapestOf rivals None = (i : ℕ) → get_or rivals i None ≡ None

-- two entries for each rival, where each entry below the width is the cheaper one of two later entries
pub record AreRounds (width : ℕ) (entries : List (Option Removal)) : Type 0 where
  pub small : width < 2 ^ 40
  pub twice : length entries ≡ 2 * width
  pub rounds : (j : ℕ) → 0 < j → j < width → get_or entries j None ≡ cheapest (get_or entries (2 * j) None) (get_or entries (2 * j + 1) None)

-- rounds as above, and the cheapest of all is kept: entry 1, or none where there are no rivals
pub record IsTournament (width : ℕ) (entries : List (Option Removal)) (best : Option Removal) : Type 0 where
  pub entries_are : AreRounds width entries
  pub first : best ≡ get_or entries 1 None
