-- A journal as a command's own file: its entries, or its first refusal.
use Rattle.std.specs.Prelude.{ℕ, ◌+◌, not, List, [], ◌∷◌, ◌++◌, length, filter_map, codes, Option, Some, None, is_none, option_map, option_and_then, if◌then◌else◌}
use Rattle.std.specs.Str.{bytes_eq}
use Rattle.rm_base.specs.Checks.{check, checks_of}
use Rattle.rm_base.specs.Codes.{refuse}
use Rattle.rm_base.specs.Text.{Text}
use Rattle.rm_base.specs.declared.Refusal.{Refusal}
use Rattle.rm_base.specs.declared.codes.TheConstants.{BAD_ANSWER, NOT_CONTRACT, OWN_FILE, UNKNOWN_DOCTOR, UNKNOWN_HOSPITAL}
use Rattle.rm_table.specs.Rows.{Row}
use Rattle.rm_market.specs.Board.{is_empty}
use Rattle.rm_market.specs.declared.Outcome.{Outcome}
use Rattle.rm_market.specs.declared.Outcome.TheVariants as out
use Rattle.rm_roster.specs.Cells.{field, data_rows, header_check}
use Rattle.rm_case.specs.Case.{CaseData}
use Rattle.rm_case.specs.Own.{contract_in, doctor_in, hospital_in}
use Rattle.rm_journal_laws.specs.declared.Entry.{Entry}

-- the checks of two cells of row i, field j and the next, that are to name a contract
abbrev pub contract_checks : CaseData → ℕ → ℕ → Text → Text → List (Option Refusal)
contract_checks c i j doctor hospital =
    check (is_none (doctor_in c doctor)) (refuse UNKNOWN_DOCTOR OWN_FILE i j)
    ∷ check (is_none (hospital_in c hospital)) (refuse UNKNOWN_HOSPITAL OWN_FILE i (j + 1))
    ∷ check (is_none (contract_in c doctor hospital)) (refuse NOT_CONTRACT OWN_FILE i (j + 1))
    ∷ []

-- fields 4 and 5 are to be empty
abbrev pub empty_checks : ℕ → Row → List (Option Refusal)
empty_checks i row =
    check (not (is_empty (field 4 row))) (refuse BAD_ANSWER OWN_FILE i 4)
    ∷ check (not (is_empty (field 5 row))) (refuse BAD_ANSWER OWN_FILE i 5)
    ∷ []

-- the answer, and then what is put out: a contract where the answer is `swapped`, else nothing
abbrev pub answer_checks : CaseData → ℕ → Row → List (Option Refusal)
answer_checks c i row =
    if bytes_eq (field 3 row) (codes "kept") then empty_checks i row
    else if bytes_eq (field 3 row) (codes "refused") then empty_checks i row
    else if bytes_eq (field 3 row) (codes "swapped") then contract_checks c i 4 (field 4 row) (field 5 row)
    else Some (refuse BAD_ANSWER OWN_FILE i 3) ∷ []

-- the checks of row i: first its offer, then its answer
abbrev pub row_checks : CaseData → ℕ → Row → List (Option Refusal)
row_checks c i row = contract_checks c i 1 (field 1 row) (field 2 row) ++ answer_checks c i row

-- the checks of a row, after the rows before it
abbrev pub entry_checks : CaseData → List Row → Row → List (Option Refusal)
entry_checks c before row = row_checks c (length before + 1) row

abbrev pub journal_header : List Text
journal_header = codes "doctor" ∷ codes "hospital" ∷ codes "answer" ∷ codes "out_doctor" ∷ codes "out_hospital" ∷ []

-- the header, and then the rows in order
abbrev pub journal_checks : CaseData → List Row → List (Option Refusal)
journal_checks c rows = header_check OWN_FILE journal_header rows ∷ checks_of (entry_checks c) (data_rows rows)

-- ---- the entries

abbrev pub row_outcome : CaseData → Row → Option Outcome
row_outcome c row =
    if bytes_eq (field 3 row) (codes "kept") then Some out.Kept
    else if bytes_eq (field 3 row) (codes "refused") then Some out.Refused
    else if bytes_eq (field 3 row) (codes "swapped") then option_map out.Swapped (contract_in c (field 4 row) (field 5 row))
    else None

-- the entry that a row tells
abbrev pub row_entry : CaseData → Row → Option Entry
row_entry c row =
    option_and_then (λ x. option_map (λ outcome. record { x = x; outcome = outcome }) (row_outcome c row)) (contract_in c (field 1 row) (field 2 row))

abbrev pub entries_in : CaseData → List Row → List Entry
entries_in c rows = filter_map (row_entry c) rows

-- the entries of a file, in its order
unfoldable pub journal_in : CaseData → List Row → List Entry
journal_in c rows = entries_in c (data_rows rows)
