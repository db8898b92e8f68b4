-- What the rows of the doctors' file say, or their first refusal.
use Rattle.std.specs.Prelude.{ℕ, ◌+◌, not, nat_lt, List, [], ◌∷◌, map, length, codes, Option, option_map}
use Rattle.std.specs.List.{sum_by}
use Rattle.rm_base.specs.Checks.{check, checks_of}
use Rattle.rm_base.specs.Codes.{refuse}
use Rattle.rm_names.specs.Names.{place_of}
use Rattle.rm_base.specs.Text.{Text, is_name}
use Rattle.rm_base.specs.declared.Refusal.{Refusal}
use Rattle.rm_base.specs.declared.codes.TheConstants.{DOCTORS_FILE, BAD_NAME, REPEATED_NAME, TOO_MANY, MOST_DOCTORS, DOCTORS_LIMIT, CHOICES_LIMIT}
use Rattle.rm_table.specs.Rows.{Row}
use Rattle.rm_roster.specs.Cells.{name_in, data_rows, header_check}
use Rattle.rm_roster.specs.Items.{list_checks, list_in}

-- the checks of a row, with the names of the rows before it, and the number of their items
abbrev pub doctor_checks : List Text → List Text → ℕ → Row → List (Option Refusal)
doctor_checks hospitals names held row =
    let i = length names + 1 in
    check (not (is_name (name_in row))) (refuse BAD_NAME DOCTORS_FILE i 1)
    ∷ option_map (λ f. refuse REPEATED_NAME DOCTORS_FILE i (f + 1)) (place_of names (name_in row))
    ∷ check (nat_lt MOST_DOCTORS i) (refuse TOO_MANY DOCTORS_FILE i DOCTORS_LIMIT)
    ∷ list_checks DOCTORS_FILE CHOICES_LIMIT hospitals i held row

abbrev pub doctor_checks_after : List Text → List Row → Row → List (Option Refusal)
doctor_checks_after hospitals before row = doctor_checks hospitals (map name_in before) (sum_by (λ r. length (list_in hospitals r)) before) row

abbrev pub doctor_header : List Text
doctor_header = codes "doctor" ∷ []

-- the header, and then the rows in order
abbrev pub doctor_table_checks : List Text → List Row → List (Option Refusal)
doctor_table_checks hospitals rows = header_check DOCTORS_FILE doctor_header rows ∷ checks_of (doctor_checks_after hospitals) (data_rows rows)

-- what the rows say: names in their order, and the list of each
pub record DoctorsData : Type 0 where
  pub names : List Text
  pub lists : List (List ℕ)

abbrev pub doctors_of : List Text → List Row → DoctorsData
doctors_of hospitals rows = record { names = map name_in rows; lists = map (list_in hospitals) rows }
