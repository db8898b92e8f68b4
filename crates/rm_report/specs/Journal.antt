-- The texts of a journal of offers and of the verdict on one.
use Rattle.std.specs.Prelude.{◌<◌, ℕ, List, [], ◌∷◌, map, length, codes, decimal}
use Rattle.rm_base.specs.Text.{Text}
use Rattle.rm_market.specs.declared.Outcome.{Outcome}
use Rattle.rm_market.specs.declared.Outcome.TheVariants as out
use Rattle.rm_case.specs.Case.{CaseData}
use Rattle.rm_journal_laws.specs.declared.Check.{Check}
use Rattle.rm_journal_laws.specs.declared.Check.TheVariants as checks
use Rattle.rm_journal_laws.specs.declared.Entry.{Entry}
use Rattle.rm_report.specs.Texts.{csv_text, doctor_name, name_of_doctor, name_of_hospital}

-- ---- a journal: a row per entry

abbrev pub outcome_word : Outcome → Text
outcome_word out.Kept = codes "kept"
outcome_word out.Refused = codes "refused"
outcome_word (out.Swapped z) = codes "swapped"

-- the doctor and the hospital of what is put out; an empty cell where nothing is
abbrev pub out_doctor : CaseData → Outcome → Text
out_doctor c out.Kept = []
out_doctor c out.Refused = []
out_doctor c (out.Swapped z) = name_of_doctor c z

abbrev pub out_hospital : CaseData → Outcome → Text
out_hospital c out.Kept = []
out_hospital c out.Refused = []
out_hospital c (out.Swapped z) = name_of_hospital c z

abbrev pub journal_header : List Text
journal_header = codes "doctor" ∷ codes "hospital" ∷ codes "answer" ∷ codes "out_doctor" ∷ codes "out_hospital" ∷ []

abbrev pub entry_row : CaseData → Entry → List Text
entry_row c e =
    name_of_doctor c e.x ∷ name_of_hospital c e.x ∷ outcome_word e.outcome ∷ out_doctor c e.outcome ∷ out_hospital c e.outcome ∷ []

unfoldable pub journal_text : CaseData → List Entry → Text
journal_text c entries = csv_text (journal_header ∷ map (entry_row c) entries)

-- ---- a verdict: one row

-- a doctor whom it names is one of the case
abbrev pub IsCheckOf : CaseData → Check → Type 0
IsCheckOf c checks.Accepted = Unit {0}
IsCheckOf c (checks.NotNext r) = Unit {0}
IsCheckOf c (checks.WrongAnswer r) = Unit {0}
IsCheckOf c (checks.Unclosed d) = d < length c.roster.doctors

abbrev pub verdict_row : CaseData → Check → List Text
verdict_row c checks.Accepted = codes "accepted" ∷ []
verdict_row c (checks.NotNext r) = codes "not-next" ∷ decimal r ∷ []
verdict_row c (checks.WrongAnswer r) = codes "wrong-answer" ∷ decimal r ∷ []
verdict_row c (checks.Unclosed d) = codes "open" ∷ doctor_name c d ∷ []

unfoldable pub verdict_text : CaseData → Check → Text
verdict_text c check = csv_text (verdict_row c check ∷ [])
