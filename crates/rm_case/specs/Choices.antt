-- The list that a command's own file puts in a doctor's place: the hospitals of its rows, or its first refusal.
use Rattle.std.specs.Prelude.{ℕ, ◌+◌, Bool, List, [], ◌∷◌, length, codes, filter_map, Option, Some, None}
use Rattle.rm_base.specs.Checks.{check, checks_of}
use Rattle.rm_base.specs.Codes.{refuse}
use Rattle.rm_base.specs.Text.{Text}
use Rattle.rm_base.specs.declared.Refusal.{Refusal}
use Rattle.rm_base.specs.declared.codes.TheConstants.{OWN_FILE, REPEATED_CHOICE, UNKNOWN_HOSPITAL}
use Rattle.rm_sets.specs.Sets.{has}
use Rattle.rm_table.specs.Rows.{Row}
use Rattle.rm_roster.specs.Cells.{field, data_rows, header_check}
use Rattle.rm_case.specs.Case.{CaseData}
use Rattle.rm_case.specs.Own.{hospital_in}

-- the hospital that a row names, if it names one
abbrev pub row_hospital : CaseData → Row → Option ℕ
row_hospital c row = hospital_in c (field 1 row)

abbrev pub hospitals_in_rows : CaseData → List Row → List ℕ
hospitals_in_rows c rows = filter_map (row_hospital c) rows

-- the checks of row i, which names this hospital or none, where the test tells of a hospital whether a former row names it
abbrev pub hospital_checks : ℕ → (ℕ → Bool) → Option ℕ → List (Option Refusal)
hospital_checks i former None = Some (refuse UNKNOWN_HOSPITAL OWN_FILE i 1) ∷ []
hospital_checks i former (Some h) = check (former h) (refuse REPEATED_CHOICE OWN_FILE i 1) ∷ []

-- the checks of a row, after the rows before it
abbrev pub choice_checks : CaseData → List Row → Row → List (Option Refusal)
choice_checks c before row = hospital_checks (length before + 1) (λ h. has h (hospitals_in_rows c before)) (row_hospital c row)

abbrev pub choice_header : List Text
choice_header = codes "hospital" ∷ []

-- the header, and then the rows in order
abbrev pub choice_table_checks : CaseData → List Row → List (Option Refusal)
choice_table_checks c rows = header_check OWN_FILE choice_header rows ∷ checks_of (choice_checks c) (data_rows rows)

-- the hospitals of the file, best first
unfoldable pub choices_of : CaseData → List Row → List ℕ
choices_of c rows = hospitals_in_rows c (data_rows rows)
