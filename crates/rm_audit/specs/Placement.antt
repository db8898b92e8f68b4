-- A placement as a command's own file: each doctor once, with his hospital or none, or the file's first refusal.
use Rattle.std.specs.Prelude.{◌≡◌, ℕ, ◌+◌, Bool, false, ◌&&◌, not, ◌==◌, List, [], ◌∷◌, ◌++◌, map, length, find, filter_map, position, get_or, codes, Option, Some, None, is_none, option_map, option_and_then, if◌then◌else◌}
use Rattle.std.specs.Option.{option_map_or}
use Rattle.rm_base.specs.Checks.{check, checks_of}
use Rattle.rm_base.specs.Codes.{refuse}
use Rattle.rm_base.specs.Text.{Text}
use Rattle.rm_base.specs.declared.Refusal.{Refusal}
use Rattle.rm_base.specs.declared.codes.TheConstants.{OWN_FILE, UNKNOWN_DOCTOR, UNKNOWN_HOSPITAL, NOT_LISTED, REPEATED_DOCTOR, DOCTOR_MISSING}
use Rattle.rm_table.specs.Rows.{Row}
use Rattle.rm_sets.specs.Sets.{has, IsIn, below}
use Rattle.rm_market.specs.Board.{contract_of, is_empty}
use Rattle.rm_market.specs.Market.{wishes_of}
use Rattle.rm_market.specs.Stable.{list_of}
use Rattle.rm_roster.specs.Cells.{field, data_rows, header_check}
use Rattle.rm_case.specs.Case.{CaseData, market}
use Rattle.rm_case.specs.Own.{doctor_in, hospital_in}

-- ---- one row

-- the doctor whom a row names
abbrev pub row_doctor : CaseData → Row → Option ℕ
row_doctor c row = doctor_in c (field 1 row)

-- it gives him a place: its second cell isn't empty
abbrev pub gives_place : Row → Bool
gives_place row = not (is_empty (field 2 row))

-- his place: the hospital that it names, or none
abbrev pub row_place : CaseData → Row → Option ℕ
row_place c row = if gives_place row then hospital_in c (field 2 row) else None

-- doctor d lists hospital h, which ranks him: the contract of the two is one of his listed ones
abbrev pub is_listed_pair : CaseData → ℕ → ℕ → Bool
is_listed_pair c d h = option_map_or (λ x. has x (list_of (wishes_of (market c)) d)) (contract_of (market c).board d h) false

-- so the doctor and the hospital that it names
abbrev pub is_listed_row : CaseData → Row → Bool
is_listed_row c row = option_map_or (λ d. option_map_or (is_listed_pair c d) (hospital_in c (field 2 row)) false) (row_doctor c row) false

-- the checks of row i, where each doctor has this former row
abbrev pub place_checks : CaseData → ℕ → (ℕ → Option ℕ) → Row → List (Option Refusal)
place_checks c i former row =
    check (is_none (row_doctor c row)) (refuse UNKNOWN_DOCTOR OWN_FILE i 1)
    ∷ option_map (λ f. refuse REPEATED_DOCTOR OWN_FILE i f) (option_and_then former (row_doctor c row))
    ∷ check (gives_place row && is_none (hospital_in c (field 2 row))) (refuse UNKNOWN_HOSPITAL OWN_FILE i 2)
    ∷ check (gives_place row && not (is_listed_row c row)) (refuse NOT_LISTED OWN_FILE i 2)
    ∷ []

-- ---- all rows

-- the doctors whom rows name
abbrev pub doctors_in : CaseData → List Row → List ℕ
doctors_in c rows = filter_map (row_doctor c) rows

-- of rows that each name a doctor, the one of doctor d
abbrev pub row_of_doctor : CaseData → List Row → ℕ → Option ℕ
row_of_doctor c rows d = option_map (λ k. k + 1) (position (λ e. e == d) (doctors_in c rows))

-- the checks of a row, after the rows before it
abbrev pub placed_checks : CaseData → List Row → Row → List (Option Refusal)
placed_checks c before row = place_checks c (length before + 1) (row_of_doctor c before) row

-- the least doctor whom no row names; doctors count from 1
abbrev pub missing_doctor : CaseData → List Row → Option Refusal
missing_doctor c rows =
    option_map (λ d. refuse DOCTOR_MISSING OWN_FILE (d + 1) 0)
    (find (λ d. not (has d (doctors_in c rows))) (below (length c.roster.doctors)))

abbrev pub placement_header : List Text
placement_header = codes "doctor" ∷ codes "hospital" ∷ []

-- the rows in order, and then that no doctor is missing
abbrev pub placed_rows_checks : CaseData → List Row → List (Option Refusal)
placed_rows_checks c rows = checks_of (placed_checks c) rows ++ missing_doctor c rows ∷ []

-- the header first
abbrev pub placement_checks : CaseData → List Row → List (Option Refusal)
placement_checks c rows = header_check OWN_FILE placement_header rows ∷ placed_rows_checks c (data_rows rows)

-- ---- the placement

-- the row names doctor d
abbrev pub is_row_of : CaseData → ℕ → Row → Bool
is_row_of c d row = option_map_or (λ e. e == d) (row_doctor c row) false

-- per doctor, in the order of the roster, the place that his row gives him
abbrev pub places_in : CaseData → List Row → List (Option ℕ)
places_in c rows = map (λ d. option_and_then (row_place c) (find (is_row_of c d) rows)) (below (length c.roster.doctors))

unfoldable pub placement_in : CaseData → List Row → List (Option ℕ)
placement_in c rows = places_in c (data_rows rows)

-- places that an audit can be made of: one for each doctor, each the hospital of one of his listed contracts
pub record AreListedPlaces (c : CaseData) (places : List (Option ℕ)) : Type 0 where
  pub doctors : length places ≡ length c.roster.doctors
  pub listed : (d h : ℕ) → get_or places d None ≡ Some h
      → (x : ℕ) × (contract_of (market c).board d h ≡ Some x) × IsIn x (list_of (wishes_of (market c)) d)
