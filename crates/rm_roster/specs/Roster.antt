-- What the files of hospitals, doctors and rank lists say, or their first refusal.
use Rattle.std.specs.Prelude.{◌≡◌, ℕ, ◌≤◌, ◌<◌, ◌==◌, List, ◌++◌, map, length, slice_index, sum, All, Option}
use Rattle.std.specs.List.{sum_by, AllZip}
use Rattle.rm_sets.specs.Sets.{all_below}
use Rattle.rm_base.specs.Lists.{IsListBelow}
use Rattle.rm_names.specs.Names.{AreDistinct}
use Rattle.rm_base.specs.Text.{Text}
use Rattle.rm_base.specs.declared.Refusal.{Refusal}
use Rattle.rm_base.specs.declared.codes.TheConstants.{GREATEST_CAPACITY, MOST_HOSPITALS, MOST_SEATS, MOST_DOCTORS, MOST_CHOICES}
use Rattle.rm_table.specs.Rows.{Row}
use Rattle.rm_roster.specs.Cells.{name_in, data_rows}
use Rattle.rm_roster.specs.Hospitals.{HospitalsData, hospitals_of, hospital_table_checks}
use Rattle.rm_roster.specs.Doctors.{DoctorsData, doctors_of, doctor_table_checks}
use Rattle.rm_roster.specs.Ranks.{ranks_of, rank_table_checks}

-- names in their order; per hospital its prefecture, capacity and target; per doctor the hospitals of his list and per
-- hospital the doctors of its rank list, best first
pub record RosterData : Type 0 where
  pub hospitals : List Text
  pub prefectures : List Text
  pub doctors : List Text
  pub prefecture_of : List ℕ
  pub capacities : List ℕ
  pub targets : List ℕ
  pub lists : List (List ℕ)
  pub ranks : List (List ℕ)

-- the names of a file
abbrev pub names_in : List Row → List Text
names_in rows = map name_in (data_rows rows)

-- the checks of the three files, one file after the other
unfoldable pub roster_checks : List Row → List Row → List Row → List (Option Refusal)
roster_checks hospitals doctors ranks =
    hospital_table_checks hospitals ++ (doctor_table_checks (names_in hospitals) doctors ++ rank_table_checks (names_in hospitals) (names_in doctors) ranks)

-- the roster of what three files say
abbrev pub roster_joined : HospitalsData → DoctorsData → List (List ℕ) → RosterData
roster_joined hospitals doctors ranks =
    record {
      hospitals = hospitals.names;
      prefectures = hospitals.prefectures;
      doctors = doctors.names;
      prefecture_of = hospitals.prefecture_of;
      capacities = hospitals.capacities;
      targets = hospitals.targets;
      lists = doctors.lists;
      ranks = ranks;
    }

unfoldable pub roster_of : List Row → List Row → List Row → RosterData
roster_of hospitals doctors ranks =
    roster_joined (hospitals_of (data_rows hospitals)) (doctors_of (names_in hospitals) (data_rows doctors))
    (ranks_of (names_in hospitals) (names_in doctors) (data_rows ranks))

-- the hospitals of a prefecture, in the order of their rows
abbrev pub hospitals_in : RosterData → ℕ → List ℕ
hospitals_in r p = all_below (length r.hospitals) (λ h. slice_index r.prefecture_of h == p)

-- what holds of the roster of files that no check refuses
pub record IsRoster (r : RosterData) : Type 0 where
  pub few_hospitals : length r.hospitals ≤ MOST_HOSPITALS
  pub hospitals : AreDistinct r.hospitals
  pub prefectures : AreDistinct r.prefectures
  pub few_doctors : length r.doctors ≤ MOST_DOCTORS
  pub doctors : AreDistinct r.doctors
  pub prefecture_each : length r.prefecture_of ≡ length r.hospitals
  pub prefecture_of : All (λ p. p < length r.prefectures) r.prefecture_of
  pub capacity_each : length r.capacities ≡ length r.hospitals
  pub capacities : All (λ c. c ≤ GREATEST_CAPACITY) r.capacities
  pub seats : sum r.capacities ≤ MOST_SEATS
  pub target_each : length r.targets ≡ length r.hospitals
  pub targets : AllZip (λ target capacity. target ≤ capacity) r.targets r.capacities
  pub list_each : length r.lists ≡ length r.doctors
  pub lists : All (IsListBelow (length r.hospitals)) r.lists
  pub few_choices : sum_by length r.lists ≤ MOST_CHOICES
  pub rank_each : length r.ranks ≡ length r.hospitals
  pub ranks : All (IsListBelow (length r.doctors)) r.ranks
  pub few_contracts : sum_by length r.ranks ≤ MOST_CHOICES
