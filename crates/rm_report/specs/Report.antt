-- The report of a placement: what is told of each hospital, of each prefecture and of the country.
use Rattle.std.specs.Prelude.{ℕ, Bool, false, ◌&&◌, ◌==◌, List, [], ◌∷◌, ◌++◌, map, flat_map, length, sum_by, count_by, codes, decimal, get_or, slice_get, Option, None, option_map}
use Rattle.std.specs.List.{list_any}
use Rattle.std.specs.Option.{option_map_or}
use Rattle.rm_base.specs.Text.{Text}
use Rattle.rm_sets.specs.Sets.{has, below}
use Rattle.rm_market.specs.Board.{hospital_of}
use Rattle.rm_market.specs.Market.{wishes_of}
use Rattle.rm_roster.specs.Roster.{hospitals_in}
use Rattle.rm_case.specs.Case.{CaseData, market}
use Rattle.rm_case.specs.Compiled.{entry_of_prefecture}
use Rattle.rm_report.specs.Texts.{PlacesData, csv_text, hospital_name}
use Rattle.rm_report.specs.declared.report.Figures.{Figures}

-- ---- what may be said of a doctor

-- his listed contracts, best first
abbrev pub listed_by : CaseData → ℕ → List ℕ
listed_by c d = get_or (wishes_of (market c)).listed d []

-- one of them is with one of these hospitals
abbrev pub applies_at : CaseData → List ℕ → ℕ → Bool
applies_at c hs d = list_any (λ x. has (hospital_of (market c).board x) hs) (listed_by c d)

-- the first of them is with hospital h
abbrev pub has_first : CaseData → ℕ → ℕ → Bool
has_first c h d = option_map_or (λ x. hospital_of (market c).board x == h) (slice_get (listed_by c d) 0) false

-- his place is hospital h
abbrev pub has_place : PlacesData → ℕ → ℕ → Bool
has_place places h d = option_map_or (λ g. g == h) (get_or places d None) false

-- ---- counts of doctors

abbrev pub doctors : CaseData → List ℕ
doctors c = below (length c.roster.doctors)

-- who are placed at hospital h, and who of them have it first
abbrev pub placed_at : CaseData → PlacesData → ℕ → ℕ
placed_at c places h = count_by (has_place places h) (doctors c)

abbrev pub first_at : CaseData → PlacesData → ℕ → ℕ
first_at c places h = count_by (λ d. has_place places h d && has_first c h d) (doctors c)

-- who apply at any of these hospitals; each counts once
abbrev pub applicants_at : CaseData → List ℕ → ℕ
applicants_at c hs = count_by (applies_at c hs) (doctors c)

-- ---- rows

-- what is told of some hospitals together
abbrev pub figures_of : CaseData → PlacesData → List ℕ → Figures
figures_of c places hs =
    record {
      capacity = sum_by (λ h. get_or c.roster.capacities h 0) hs;
      target = sum_by (λ h. get_or c.roster.targets h 0) hs;
      placed = sum_by (placed_at c places) hs;
      applicants = applicants_at c hs;
      first = sum_by (first_at c places) hs;
    }

abbrev pub report_header : List Text
report_header =
    codes "prefecture" ∷ codes "hospital" ∷ codes "capacity" ∷ codes "target" ∷ codes "cap"
    ∷ codes "placed" ∷ codes "applicants" ∷ codes "first" ∷ []

-- the cell of a cap is empty where there is none
abbrev pub report_row : Text → Text → Option ℕ → Figures → List Text
report_row prefecture hospital cap f =
    prefecture ∷ hospital ∷ decimal f.capacity ∷ decimal f.target ∷ option_map_or decimal cap []
    ∷ decimal f.placed ∷ decimal f.applicants ∷ decimal f.first ∷ []

abbrev pub prefecture_name : CaseData → ℕ → Text
prefecture_name c q = get_or c.roster.prefectures q []

-- the cap of the entry of prefecture q, if it has one
abbrev pub cap_of_entry : CaseData → ℕ → Option ℕ
cap_of_entry c q = option_map (λ g. length (get_or c.policy.groups.steps g [])) (entry_of_prefecture c.roster c.policy q)

abbrev pub hospital_row : CaseData → PlacesData → ℕ → ℕ → List Text
hospital_row c places q h = report_row (prefecture_name c q) (hospital_name c h) None (figures_of c places (h ∷ []))

abbrev pub whole_row : CaseData → PlacesData → ℕ → List Text
whole_row c places q = report_row (prefecture_name c q) [] (cap_of_entry c q) (figures_of c places (hospitals_in c.roster q))

abbrev pub country_row : CaseData → PlacesData → List Text
country_row c places = report_row [] [] None (figures_of c places (below (length c.roster.hospitals)))

-- a row for each hospital of a prefecture, and one for all of it
abbrev pub prefecture_rows : CaseData → PlacesData → ℕ → List (List Text)
prefecture_rows c places q = map (hospital_row c places q) (hospitals_in c.roster q) ++ whole_row c places q ∷ []

-- the header, and the rows of the first n prefectures
abbrev pub report_rows : CaseData → PlacesData → ℕ → List (List Text)
report_rows c places n = report_header ∷ flat_map (prefecture_rows c places) (below n)

unfoldable pub prefecture_text : CaseData → PlacesData → Text
prefecture_text c places = csv_text (report_rows c places (length c.roster.prefectures) ++ country_row c places ∷ [])
