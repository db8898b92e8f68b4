-- Events as a command's own file: each a word, a doctor and, where an offer or a refusal arrives, a hospital; or the file's first refusal.
use Rattle.std.specs.Prelude.{ℕ, ◌+◌, not, List, [], ◌∷◌, length, codes, filter_map, Option, Some, None, is_none, option_map, option_and_then, if◌then◌else◌}
use Rattle.std.specs.Option.{option_map_or}
use Rattle.std.specs.Str.{bytes_eq}
use Rattle.rm_base.specs.Checks.{check, checks_of}
use Rattle.rm_base.specs.Codes.{refuse}
use Rattle.rm_base.specs.Text.{Text}
use Rattle.rm_base.specs.declared.Refusal.{Refusal}
use Rattle.rm_base.specs.declared.codes.TheConstants.{OWN_FILE, UNKNOWN_DOCTOR, UNKNOWN_HOSPITAL, NOT_CONTRACT, BAD_EVENT}
use Rattle.rm_table.specs.Rows.{Row}
use Rattle.rm_market.specs.Board.{is_empty}
use Rattle.rm_roster.specs.Cells.{field, data_rows, header_check}
use Rattle.rm_case.specs.Case.{CaseData}
use Rattle.rm_case.specs.Own.{doctor_in, hospital_in, contract_in}
use Rattle.rm_transit_laws.specs.declared.Event.{Event}
use Rattle.rm_transit_laws.specs.declared.Event.TheVariants as events
use Rattle.rm_transit.specs.declared.event_file.Word.{Word}
use Rattle.rm_transit.specs.declared.event_file.Word.TheVariants as words

-- ---- one row

-- what happens, by its word
abbrev pub word_named : Text → Option Word
word_named text =
    if bytes_eq text (codes "send") then Some words.Send
    else if bytes_eq text (codes "offer") then Some words.Offer
    else if bytes_eq text (codes "refusal") then Some words.Refusal
    else None

abbrev pub row_word : Row → Option Word
row_word row = word_named (field 1 row)

-- the doctor whom a row names, and the contract of his with the hospital that it names
abbrev pub row_doctor : CaseData → Row → Option ℕ
row_doctor c row = doctor_in c (field 2 row)

abbrev pub row_contract : CaseData → Row → Option ℕ
row_contract c row = contract_in c (field 2 row) (field 3 row)

-- the hospital ranks the doctor
abbrev pub contract_checks : CaseData → ℕ → Row → List (Option Refusal)
contract_checks c i row =
    check (is_none (hospital_in c (field 3 row))) (refuse UNKNOWN_HOSPITAL OWN_FILE i 3)
    ∷ check (is_none (row_contract c row)) (refuse NOT_CONTRACT OWN_FILE i 3)
    ∷ []

-- after `send` there is no hospital
abbrev pub hospital_checks : CaseData → ℕ → Row → Word → List (Option Refusal)
hospital_checks c i row words.Send = check (not (is_empty (field 3 row))) (refuse BAD_EVENT OWN_FILE i 3) ∷ []
hospital_checks c i row words.Offer = contract_checks c i row
hospital_checks c i row words.Refusal = contract_checks c i row

-- the checks of row i
abbrev pub row_checks : CaseData → ℕ → Row → List (Option Refusal)
row_checks c i row =
    check (is_none (row_word row)) (refuse BAD_EVENT OWN_FILE i 1)
    ∷ check (is_none (row_doctor c row)) (refuse UNKNOWN_DOCTOR OWN_FILE i 2)
    ∷ option_map_or (hospital_checks c i row) (row_word row) []

-- its event
abbrev pub event_of : CaseData → Row → Word → Option Event
event_of c row words.Send = option_map events.Send (row_doctor c row)
event_of c row words.Offer = option_map events.Offer (row_contract c row)
event_of c row words.Refusal = option_map events.Refusal (row_contract c row)

abbrev pub row_event : CaseData → Row → Option Event
row_event c row = option_and_then (event_of c row) (row_word row)

-- ---- all rows

abbrev pub events_in : CaseData → List Row → List Event
events_in c rows = filter_map (row_event c) rows

-- the checks of a row, after the rows before it
abbrev pub event_checks : CaseData → List Row → Row → List (Option Refusal)
event_checks c before row = row_checks c (length before + 1) row

abbrev pub event_header : List Text
event_header = codes "event" ∷ codes "doctor" ∷ codes "hospital" ∷ []

-- the header, and then the rows in order
abbrev pub event_table_checks : CaseData → List Row → List (Option Refusal)
event_table_checks c rows = header_check OWN_FILE event_header rows ∷ checks_of (event_checks c) (data_rows rows)

-- the events, in the order of the file
unfoldable pub events_told : CaseData → List Row → List Event
events_told c rows = events_in c (data_rows rows)
