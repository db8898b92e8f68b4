-- What the rows of the rank lists' file say, or their first refusal.
use Rattle.std.specs.Prelude.{ℕ, ◌+◌, ◌==◌, Bool, false, List, [], ◌∷◌, map, filter_map, find, length, codes, Option, Some, None, option_map, position}
use Rattle.std.specs.List.{sum_by, range_with_len}
use Rattle.std.specs.Option.{option_map_or}
use Rattle.rm_base.specs.Checks.{checks_of}
use Rattle.rm_base.specs.Codes.{refuse}
use Rattle.rm_names.specs.Names.{place_of}
use Rattle.rm_base.specs.Text.{Text}
use Rattle.rm_base.specs.declared.Refusal.{Refusal}
use Rattle.rm_base.specs.declared.codes.TheConstants.{RANKS_FILE, UNKNOWN_NAME, REPEATED_ROW, RANKED_LIMIT}
use Rattle.rm_table.specs.Rows.{Row}
use Rattle.rm_roster.specs.Cells.{name_in, data_rows, header_check}
use Rattle.rm_roster.specs.Items.{list_checks, list_in}

-- the checks of row i of the hospital that was found, where each hospital has this former row, and the rows before hold so many items
abbrev pub found_checks : List Text → ℕ → (ℕ → Option ℕ) → ℕ → Row → Option ℕ → List (Option Refusal)
found_checks doctors i former held row None = Some (refuse UNKNOWN_NAME RANKS_FILE i 1) ∷ []
found_checks doctors i former held row (Some h) =
    option_map (λ f. refuse REPEATED_ROW RANKS_FILE i f) (former h) ∷ list_checks RANKS_FILE RANKED_LIMIT doctors i held row

abbrev pub rank_checks : List Text → List Text → ℕ → (ℕ → Option ℕ) → ℕ → Row → List (Option Refusal)
rank_checks hospitals doctors i former held row = found_checks doctors i former held row (place_of hospitals (name_in row))

-- the hospitals that rows name
abbrev pub keys_in : List Text → List Row → List ℕ
keys_in hospitals rows = filter_map (λ row. place_of hospitals (name_in row)) rows

abbrev pub rank_checks_after : List Text → List Text → List Row → Row → List (Option Refusal)
rank_checks_after hospitals doctors before row =
    rank_checks hospitals doctors (length before + 1) (λ h. option_map (λ k. k + 1) (position (λ x. x == h) (keys_in hospitals before)))
    (sum_by (λ r. length (list_in doctors r)) before) row

abbrev pub rank_header : List Text
rank_header = codes "hospital" ∷ []

-- the header, and then the rows in order
abbrev pub rank_table_checks : List Text → List Text → List Row → List (Option Refusal)
rank_table_checks hospitals doctors rows = header_check RANKS_FILE rank_header rows ∷ checks_of (rank_checks_after hospitals doctors) (data_rows rows)

-- whether a row names hospital h
abbrev pub names_hospital : List Text → ℕ → Row → Bool
names_hospital hospitals h row = option_map_or (λ n. n == h) (place_of hospitals (name_in row)) false

-- the rank list of a hospital: that of its row, or else the empty one
abbrev pub rank_of : List Text → List Text → List Row → ℕ → List ℕ
rank_of hospitals doctors rows h = option_map_or (list_in doctors) (find (names_hospital hospitals h) rows) []

-- the rank list of each hospital
abbrev pub ranks_of : List Text → List Text → List Row → List (List ℕ)
ranks_of hospitals doctors rows = map (rank_of hospitals doctors rows) (range_with_len 0 (length hospitals))
