-- A command's own file: the offers that it chooses of, or its first refusal.
use Rattle.std.specs.Prelude.{ℕ, ◌+◌, ◌==◌, List, [], ◌∷◌, length, codes, filter_map, position, Option, is_none, option_map, option_and_then}
use Rattle.rm_base.specs.Checks.{check, checks_of}
use Rattle.rm_base.specs.Codes.{refuse}
use Rattle.rm_names.specs.Names.{place_of}
use Rattle.rm_base.specs.Text.{Text}
use Rattle.rm_base.specs.declared.Refusal.{Refusal}
use Rattle.rm_base.specs.declared.codes.TheConstants.{OWN_FILE, UNKNOWN_DOCTOR, UNKNOWN_HOSPITAL, NOT_CONTRACT, REPEATED_CONTRACT}
use Rattle.rm_table.specs.Rows.{Row}
use Rattle.rm_market.specs.Board.{number_of}
use Rattle.rm_roster.specs.Cells.{field, data_rows, header_check}
use Rattle.rm_case.specs.Case.{CaseData}

-- the doctor, and the hospital, that a text names
abbrev pub doctor_in : CaseData → Text → Option ℕ
doctor_in c text = place_of c.roster.doctors text

abbrev pub hospital_in : CaseData → Text → Option ℕ
hospital_in c text = place_of c.roster.hospitals text

-- the contract of the doctor and the hospital that two texts name, if the hospital ranks him
abbrev pub contract_in : CaseData → Text → Text → Option ℕ
contract_in c doctor hospital = option_and_then (λ d. option_and_then (number_of c.roster.ranks d) (hospital_in c hospital)) (doctor_in c doctor)

-- ---- offers: rows of a doctor and a hospital, each a contract, once

abbrev pub row_contract : CaseData → Row → Option ℕ
row_contract c row = contract_in c (field 1 row) (field 2 row)

abbrev pub contracts_in : CaseData → List Row → List ℕ
contracts_in c rows = filter_map (row_contract c) rows

-- the checks of row i, where each contract has this former row
abbrev pub row_checks : CaseData → ℕ → (ℕ → Option ℕ) → Row → List (Option Refusal)
row_checks c i former row =
    check (is_none (doctor_in c (field 1 row))) (refuse UNKNOWN_DOCTOR OWN_FILE i 1)
    ∷ check (is_none (hospital_in c (field 2 row))) (refuse UNKNOWN_HOSPITAL OWN_FILE i 2)
    ∷ check (is_none (row_contract c row)) (refuse NOT_CONTRACT OWN_FILE i 2)
    ∷ option_map (λ f. refuse REPEATED_CONTRACT OWN_FILE i f) (option_and_then former (row_contract c row))
    ∷ []

-- of rows that are contracts, the one of contract x
abbrev pub row_of_contract : CaseData → List Row → ℕ → Option ℕ
row_of_contract c rows x = option_map (λ k. k + 1) (position (λ y. y == x) (contracts_in c rows))

-- the checks of a row, after the rows before it
abbrev pub offer_checks : CaseData → List Row → Row → List (Option Refusal)
offer_checks c before row = row_checks c (length before + 1) (row_of_contract c before) row

abbrev pub offer_header : List Text
offer_header = codes "doctor" ∷ codes "hospital" ∷ []

-- the header, and then the rows in order
abbrev pub offer_table_checks : CaseData → List Row → List (Option Refusal)
offer_table_checks c rows = header_check OWN_FILE offer_header rows ∷ checks_of (offer_checks c) (data_rows rows)

-- the offered contracts, in the order of the file
unfoldable pub offers_of : CaseData → List Row → List ℕ
offers_of c rows = contracts_in c (data_rows rows)
