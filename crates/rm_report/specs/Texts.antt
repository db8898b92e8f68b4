-- The texts that the commands write about a case.
use Rattle.std.specs.Prelude.{◌≡◌, ℕ, ◌<◌, Bool, List, [], ◌∷◌, ◌++◌, map, flat_map, length, sum_by, codes, decimal, get_or, Option, None, All, IfSome, if◌then◌else◌}
use Rattle.std.specs.List.{concat}
use Rattle.std.specs.Option.{option_map_or}
use Rattle.std.specs.Fmt.{signed_decimal}
use Rattle.csv.specs.Writing.{row_text, default_writer}
use Rattle.rm_base.specs.Text.{Text}
use Rattle.rm_market.specs.Board.{Board, contract_count, doctor_of, hospital_of, sets_of}
use Rattle.rm_market.specs.Market.{wishes_of}
use Rattle.rm_market.specs.Tree.{below, depth}
use Rattle.rm_market.specs.declared.CertRow.{CertRow}
use Rattle.rm_market.specs.declared.Finding.{Finding}
use Rattle.rm_market.specs.declared.Finding.TheVariants.{Stable, OverCap, Unwanted, Blocks}
use Rattle.rm_policy.specs.declared.Kind.{Kind}
use Rattle.rm_policy.specs.declared.Kind.TheVariants.{Flexible, Steps}
use Rattle.rm_policy.specs.declared.Ties.{Ties}
use Rattle.rm_policy.specs.declared.Ties.TheVariants.{ByRank, ByHospital, Listed}
use Rattle.rm_case.specs.Case.{CaseData, NodeTitle, hospital, prefecture, group, market, title_of}

-- rows of cells, as the CSV writer writes them
unfoldable pub csv_text : List (List Text) → Text
csv_text rows = flat_map (row_text default_writer) rows

abbrev pub doctor_name : CaseData → ℕ → Text
doctor_name c d = get_or c.roster.doctors d []

abbrev pub hospital_name : CaseData → ℕ → Text
hospital_name c h = get_or c.roster.hospitals h []

-- ---- placement: a row per doctor

-- per doctor, the hospital where he is placed, or none
abbrev pub PlacesData : Type 0
PlacesData = List (Option ℕ)

-- each place is a hospital, of which there are so many
abbrev pub AreHospitals : ℕ → PlacesData → Type 0
AreHospitals n places = All (λ place. IfSome place (λ h. h < n)) places

-- the name of a doctor's hospital, or an empty cell
abbrev pub place_name : CaseData → PlacesData → ℕ → Text
place_name c places d = option_map_or (hospital_name c) (get_or places d None) []

abbrev pub placement_header : List Text
placement_header = codes "doctor" ∷ codes "hospital" ∷ []

abbrev pub placement_row : CaseData → PlacesData → ℕ → List Text
placement_row c places d = doctor_name c d ∷ place_name c places d ∷ []

-- the header, and the rows of the first n doctors
abbrev pub placement_rows : CaseData → PlacesData → ℕ → List (List Text)
placement_rows c places n = placement_header ∷ map (placement_row c places) (below n)

unfoldable pub placement_text : CaseData → PlacesData → Text
placement_text c places = csv_text (placement_rows c places (length c.roster.doctors))

-- ---- pair: a row per doctor, with his places in two placements

-- a place for each doctor of the case, each a hospital of the case
abbrev pub ArePlaces : CaseData → PlacesData → Type 0
ArePlaces c places = (length places ≡ length c.roster.doctors) × AreHospitals (length c.roster.hospitals) places

abbrev pub pair_header : List Text
pair_header = codes "doctor" ∷ codes "declared" ∷ codes "replaced" ∷ []

abbrev pub pair_row : CaseData → PlacesData → PlacesData → ℕ → List Text
pair_row c declared replaced d = doctor_name c d ∷ place_name c declared d ∷ place_name c replaced d ∷ []

-- the header, and the rows of the first n doctors
abbrev pub pair_rows : CaseData → PlacesData → PlacesData → ℕ → List (List Text)
pair_rows c declared replaced n = pair_header ∷ map (pair_row c declared replaced) (below n)

unfoldable pub pair_text : CaseData → PlacesData → PlacesData → Text
pair_text c declared replaced = csv_text (pair_rows c declared replaced (length c.roster.doctors))

-- ---- check: the counts of the market

abbrev pub kind_word : Kind → Text
kind_word Flexible = codes "flexible"
kind_word Steps = codes "steps"

abbrev pub ties_word : Ties → Text
ties_word ByRank = codes "by-rank"
ties_word ByHospital = codes "by-hospital"
ties_word Listed = codes "listed"

-- a line of a word and a text
abbrev pub line : Text → Text → Text
line word text = word ++ codes " " ++ text ++ codes "\n"

abbrev pub number_line : Text → ℕ → Text
number_line word n = line word (decimal n)

-- how many listed contracts there are
abbrev pub listed_count : CaseData → ℕ
listed_count c = sum_by length (wishes_of (market c)).listed

-- the greatest number of nodes that contain one hospital
abbrev pub tree_depth : Board → ℕ
tree_depth b = depth (sets_of b) (length b.ranks)

abbrev pub check_lines : CaseData → List Text
check_lines c =
    line (codes "kind") (kind_word c.policy.kind)
    ∷ line (codes "ties") (ties_word c.policy.ties)
    ∷ number_line (codes "hospitals") (length c.roster.hospitals)
    ∷ number_line (codes "doctors") (length c.roster.doctors)
    ∷ number_line (codes "contracts") (contract_count (market c).board)
    ∷ number_line (codes "listed") (listed_count c)
    ∷ number_line (codes "nodes") (length (market c).board.nodes)
    ∷ number_line (codes "depth") (tree_depth (market c).board)
    ∷ []

unfoldable pub check_text : CaseData → Text
check_text c = concat (check_lines c)

-- ---- certificate: a row per offered contract

-- the contracts and the node of a row are those of the board
pub record IsRowOf (b : Board) (r : CertRow) : Type 0 where
  pub contract : r.contract < contract_count b
  pub full : IfSome r.full (λ k. k < length b.nodes)
  pub swap : IfSome r.swap (λ s. s.out < contract_count b)

abbrev pub name_of_doctor : CaseData → ℕ → Text
name_of_doctor c x = doctor_name c (doctor_of (market c).board x)

abbrev pub name_of_hospital : CaseData → ℕ → Text
name_of_hospital c x = hospital_name c (hospital_of (market c).board x)

-- what a node is, and its name
abbrev pub title_text : NodeTitle → Text
title_text (hospital name) = codes "hospital " ++ name
title_text (prefecture name) = codes "prefecture " ++ name
title_text (group name) = codes "group " ++ name

abbrev pub answer_word : Bool → Text
answer_word kept = if kept then codes "kept" else codes "refused"

abbrev pub node_name : CaseData → ℕ → Text
node_name c k = title_text (title_of c k)

abbrev pub certificate_header : List Text
certificate_header =
    codes "doctor" ∷ codes "hospital" ∷ codes "answer" ∷ codes "change" ∷ codes "full"
    ∷ codes "swap_doctor" ∷ codes "swap_hospital" ∷ codes "swap_change" ∷ []

-- where a row has no change, no full node or no swap, the cells are empty
abbrev pub certificate_row : CaseData → CertRow → List Text
certificate_row c r =
    name_of_doctor c r.contract
    ∷ name_of_hospital c r.contract
    ∷ answer_word r.kept
    ∷ option_map_or signed_decimal r.change []
    ∷ option_map_or (node_name c) r.full []
    ∷ option_map_or (λ s. name_of_doctor c s.out) r.swap []
    ∷ option_map_or (λ s. name_of_hospital c s.out) r.swap []
    ∷ option_map_or (λ s. signed_decimal s.change) r.swap []
    ∷ []

unfoldable pub certificate_text : CaseData → List CertRow → Text
certificate_text c rows = csv_text (certificate_header ∷ map (certificate_row c) rows)

-- ---- finding: one row

-- the node or the contract that a finding names is one of the board
abbrev pub IsFindingOf : Board → Finding → Type 0
IsFindingOf b Stable = Unit {0}
IsFindingOf b (OverCap k) = k < length b.nodes
IsFindingOf b (Unwanted z) = z < contract_count b
IsFindingOf b (Blocks x) = x < contract_count b

abbrev pub finding_row : CaseData → Finding → List Text
finding_row c Stable = codes "stable" ∷ []
finding_row c (OverCap k) = codes "over" ∷ node_name c k ∷ []
finding_row c (Unwanted z) = codes "unwanted" ∷ name_of_doctor c z ∷ name_of_hospital c z ∷ []
finding_row c (Blocks x) = codes "blocks" ∷ name_of_doctor c x ∷ name_of_hospital c x ∷ []

unfoldable pub finding_text : CaseData → Finding → Text
finding_text c finding = csv_text (finding_row c finding ∷ [])
