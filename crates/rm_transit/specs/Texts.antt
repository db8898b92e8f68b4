-- The text of where the doctors stand.
use Rattle.std.specs.Prelude.{ℕ, Bool, List, [], ◌∷◌, ◌++◌, map, length, codes, get_or, if◌then◌else◌}
use Rattle.std.specs.Option.{option_map_or}
use Rattle.rm_base.specs.Text.{Text}
use Rattle.rm_market.specs.Tree.{below}
use Rattle.rm_case.specs.Case.{CaseData}
use Rattle.rm_report.specs.Texts.{csv_text, doctor_name, name_of_hospital}
use Rattle.rm_transit_laws.specs.declared.Mark.{Mark}
use Rattle.rm_transit_laws.specs.declared.Mark.TheVariants as mark
use Rattle.rm_transit.specs.Running.{contract_in}

-- the word of a mark
abbrev pub mark_word : Mark → Text
mark_word mark.Free = codes "free"
mark_word mark.Done = codes "done"
mark_word (mark.Offered x) = codes "offered"
mark_word (mark.Held x) = codes "held"
mark_word (mark.Refused x) = codes "refused"

-- the name of its hospital, or an empty cell
abbrev pub mark_hospital : CaseData → Mark → Text
mark_hospital c m = option_map_or (name_of_hospital c) (contract_in m) []

abbrev pub transit_header : List Text
transit_header = codes "doctor" ∷ codes "hospital" ∷ codes "state" ∷ []

abbrev pub transit_row : CaseData → List Mark → ℕ → List Text
transit_row c marks d = doctor_name c d ∷ mark_hospital c (get_or marks d mark.Free) ∷ mark_word (get_or marks d mark.Free) ∷ []

-- whether everything rests
abbrev pub closing_word : Bool → Text
closing_word closed = if closed then codes "closed" else codes "open"

abbrev pub closing_row : Bool → List Text
closing_row closed = [] ∷ [] ∷ closing_word closed ∷ []

-- the header, and the rows of the first n doctors
abbrev pub transit_rows : CaseData → List Mark → ℕ → List (List Text)
transit_rows c marks n = transit_header ∷ map (transit_row c marks) (below n)

unfoldable pub transit_text : CaseData → List Mark → Bool → Text
transit_text c marks closed = csv_text (transit_rows c marks (length c.roster.doctors) ++ closing_row closed ∷ [])
