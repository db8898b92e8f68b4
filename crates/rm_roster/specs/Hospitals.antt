-- What the rows of the hospitals' file say, or their first refusal.
use Rattle.std.specs.Prelude.{ℕ, ◌+◌, Bool, not, ◌||◌, ◌==◌, nat_lt, List, [], ◌∷◌, ◌++◌, map, length, codes, Option, option_map, is_some, unwrap_or, if◌then◌else◌, fold}
use Rattle.std.specs.List.{sum_by}
use Rattle.rm_base.specs.Checks.{check, checks_of}
use Rattle.rm_base.specs.Codes.{refuse}
use Rattle.rm_names.specs.Names.{place_of}
use Rattle.rm_base.specs.Text.{Text, is_name}
use Rattle.rm_base.specs.declared.Refusal.{Refusal}
use Rattle.rm_base.specs.declared.codes.TheConstants.{HOSPITALS_FILE, BAD_NAME, REPEATED_NAME, BAD_NUMBER, ABOVE_LIMIT, TARGET_ABOVE_CAPACITY, TOO_MANY, GREATEST_CAPACITY, MOST_HOSPITALS, HOSPITALS_LIMIT, MOST_SEATS, SEATS_LIMIT}
use Rattle.rm_table.specs.Rows.{Row}
use Rattle.rm_roster.specs.Cells.{field, name_in, data_rows, is_number, number, header_check}

abbrev pub prefecture_in : Row → Text
prefecture_in row = field 2 row

abbrev pub capacity_in : Row → ℕ
capacity_in row = number (field 3 row)

-- an empty target is 0
abbrev pub is_target : Text → Bool
is_target text = (length text == 0) || is_number text

abbrev pub target_in : Row → ℕ
target_in row = number (field 4 row)

abbrev pub hospital_header : List Text
hospital_header = codes "hospital" ∷ codes "prefecture" ∷ codes "capacity" ∷ codes "target" ∷ []

-- the checks of a row, with the names of the rows before it, and the sum of their capacities
abbrev pub hospital_checks : List Text → ℕ → Row → List (Option Refusal)
hospital_checks names seats row =
    let i = length names + 1 in
    check (not (is_name (name_in row))) (refuse BAD_NAME HOSPITALS_FILE i 1)
    ∷ option_map (λ f. refuse REPEATED_NAME HOSPITALS_FILE i (f + 1)) (place_of names (name_in row))
    ∷ check (not (is_name (prefecture_in row))) (refuse BAD_NAME HOSPITALS_FILE i 2)
    ∷ check (not (is_number (field 3 row))) (refuse BAD_NUMBER HOSPITALS_FILE i 3)
    ∷ check (nat_lt GREATEST_CAPACITY (capacity_in row)) (refuse ABOVE_LIMIT HOSPITALS_FILE i 3)
    ∷ check (not (is_target (field 4 row))) (refuse BAD_NUMBER HOSPITALS_FILE i 4)
    ∷ check (nat_lt GREATEST_CAPACITY (target_in row)) (refuse ABOVE_LIMIT HOSPITALS_FILE i 4)
    ∷ check (nat_lt (capacity_in row) (target_in row)) (refuse TARGET_ABOVE_CAPACITY HOSPITALS_FILE i 4)
    ∷ check (nat_lt MOST_HOSPITALS i) (refuse TOO_MANY HOSPITALS_FILE i HOSPITALS_LIMIT)
    ∷ check (nat_lt MOST_SEATS (seats + capacity_in row)) (refuse TOO_MANY HOSPITALS_FILE i SEATS_LIMIT)
    ∷ []

-- the checks of a row, with the rows before it
abbrev pub hospital_checks_after : List Row → Row → List (Option Refusal)
hospital_checks_after before row = hospital_checks (map name_in before) (sum_by capacity_in before) row

-- the header, and then the rows in order
abbrev pub hospital_table_checks : List Row → List (Option Refusal)
hospital_table_checks rows = header_check HOSPITALS_FILE hospital_header rows ∷ checks_of hospital_checks_after (data_rows rows)

-- what the rows say: names in their order, and per hospital its prefecture, capacity and target
pub record HospitalsData : Type 0 where
  pub names : List Text
  pub prefectures : List Text
  pub prefecture_of : List ℕ
  pub capacities : List ℕ
  pub targets : List ℕ

-- the number of a text that is among texts
abbrev pub number_in : List Text → Text → ℕ
number_in texts text = unwrap_or (place_of texts text) 0

-- texts, with one more unless it is among them
abbrev pub with_text : List Text → Text → List Text
with_text texts text = if is_some (place_of texts text) then texts else texts ++ text ∷ []

-- texts in the order of their first appearance
abbrev pub each_once : List Text → List Text
each_once texts = fold with_text [] texts

abbrev pub hospitals_of : List Row → HospitalsData
hospitals_of rows =
    let prefectures = each_once (map prefecture_in rows) in
    record {
      names = map name_in rows;
      prefectures = prefectures;
      prefecture_of = map (number_in prefectures) (map prefecture_in rows);
      capacities = map capacity_in rows;
      targets = map target_in rows;
    }

-- hospitals and one more
abbrev pub with_hospital : HospitalsData → Text → Text → ℕ → ℕ → HospitalsData
with_hospital h name prefecture capacity target =
    let prefectures = with_text h.prefectures prefecture in
    record {
      names = h.names ++ name ∷ [];
      prefectures = prefectures;
      prefecture_of = h.prefecture_of ++ number_in prefectures prefecture ∷ [];
      capacities = h.capacities ++ capacity ∷ [];
      targets = h.targets ++ target ∷ [];
    }
