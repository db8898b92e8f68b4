-- The items of a row: its cells past the first that aren't empty, each of which names something.
use Rattle.std.specs.Prelude.{ℕ, ◌+◌, ◌==◌, nat_lt, List, [], ◌∷◌, length, drop, Option, Some, None, if◌then◌else◌, filter_map}
use Rattle.std.specs.List.{list_any}
use Rattle.rm_base.specs.Checks.{check, checks_of}
use Rattle.rm_base.specs.Codes.{refuse}
use Rattle.rm_names.specs.Names.{place_of}
use Rattle.rm_base.specs.Text.{Text}
use Rattle.rm_base.specs.declared.Refusal.{Refusal}
use Rattle.rm_base.specs.declared.codes.TheConstants.{UNKNOWN_NAME, REPEATED_CHOICE, TOO_MANY, MOST_CHOICES}
use Rattle.rm_table.specs.Rows.{Row}

-- the number of an item; an empty cell has none
abbrev pub item_of : List Text → Text → Option ℕ
item_of names cell = if length cell == 0 then None else place_of names cell

abbrev pub items_in : List Text → List Text → List ℕ
items_in names cells = filter_map (item_of names) cells

-- the list of a row: the numbers of its items, best first
abbrev pub list_in : List Text → Row → List ℕ
list_in names row = items_in names (drop 1 row)

-- the checks of an item in field j of row i, by its number, where its list has these items before it, and all lists have so many
abbrev pub number_checks : ℕ → ℕ → ℕ → ℕ → List ℕ → ℕ → Option ℕ → List (Option Refusal)
number_checks file limit i j list held None = Some (refuse UNKNOWN_NAME file i j) ∷ []
number_checks file limit i j list held (Some n) =
    check (list_any (λ m. m == n) list) (refuse REPEATED_CHOICE file i j)
    ∷ check (nat_lt MOST_CHOICES (held + 1)) (refuse TOO_MANY file i limit)
    ∷ []

abbrev pub cell_checks : ℕ → ℕ → List Text → ℕ → ℕ → List ℕ → ℕ → Text → List (Option Refusal)
cell_checks file limit names i j list held cell = if length cell == 0 then [] else number_checks file limit i j list held (place_of names cell)

-- the checks of a cell past the first, with those before it, where the rows before hold so many items
abbrev pub cell_checks_after : ℕ → ℕ → List Text → ℕ → ℕ → List Text → Text → List (Option Refusal)
cell_checks_after file limit names i held before cell =
    cell_checks file limit names i (length before + 2) (items_in names before) (held + length (items_in names before)) cell

-- the checks of the items of row i
abbrev pub list_checks : ℕ → ℕ → List Text → ℕ → ℕ → Row → List (Option Refusal)
list_checks file limit names i held row = checks_of (cell_checks_after file limit names i held) (drop 1 row)
