-- What reading the entries of groups and of hospitals answers.
use Rattle.std.specs.Prelude.{◌≡◌, ◌≤◌, Bool, true, false, ℕ, ℤ, List, [], map, Option, Some, None, Result, Ok, Err}
use Rattle.std.specs.Borrow.{Bor}
use Rattle.toml.specs.Data.{Data}
use Rattle.toml.specs.View.{view}
use Rattle.rm_base.specs.Checks.{checks_of, first_of}
use Rattle.rm_names.specs.Names.{place_of}
use Rattle.rm_base.specs.Reading.{Grows, Reads, Stops}
use Rattle.rm_base.specs.Text.{Text}
use Rattle.rm_base.specs.declared.ReadFault.{ReadFault}
use Rattle.rm_base.specs.declared.Refusal.{Refusal}
use Rattle.rm_market.specs.Steps.{steps_of}
use Rattle.rm_market.specs.declared.Run.{Run}
use Rattle.rm_roster.specs.Roster.{RosterData}
use Rattle.rm_policy.specs.Entries.{is_present, name_of_entry, numbers_of}
use Rattle.rm_policy.specs.Groups.{GroupsData, group_element_checks, group_array_checks, group_checks_after, group_entry_checks, group_head_checks, group_limit_checks, group_shape_checks, groups_named, groups_of, hospitals_named, prefectures_named, steps_of_group, with_group}
use Rattle.rm_policy.specs.Hospitals.{hospital_entry_checks, hospital_entry_checks_after, hospital_shape_checks, hospital_steps_of, steps_in}
use Rattle.rm_policy.specs.Steps.{flat, runs_in, runs_of}
use Rattle.rm_policy.specs.declared.groups.Elements.{Elements}
use Rattle.rm_policy.specs.declared.groups.GroupArrays.{GroupArrays}
use Rattle.rm_policy.specs.declared.groups.GroupEntry.{GroupEntry}
use Rattle.rm_policy.specs.declared.groups.GroupShape.{GroupShape}
use Rattle.rm_policy.specs.declared.groups.Limit.{Limit}
use Rattle.rm_policy.specs.declared.groups.Limit.TheVariants as limit
use Rattle.rm_policy.specs.declared.hospitals.HospitalEntry.{HospitalEntry}
use Rattle.rm_policy.specs.declared.hospitals.HospitalShape.{HospitalShape}
use Rattle.rm_policy.specs.declared.keys.Key.TheVariants as key

-- ---- limits

abbrev pub runs_of_limit : Limit → List Run
runs_of_limit (limit.Cap n) = []
runs_of_limit (limit.Runs values) = runs_of (map view values.now)

abbrev pub steps_of_limit : Limit → List ℤ
steps_of_limit (limit.Cap n) = flat n
steps_of_limit (limit.Runs values) = steps_of (runs_of (map view values.now))

abbrev pub is_cap : Limit → Bool
is_cap (limit.Cap n) = true
is_cap (limit.Runs values) = false

abbrev pub IsFit : Limit → Type 0
IsFit (limit.Cap n) = n ≤ 1000000
IsFit (limit.Runs values) = Unit {0}

abbrev pub ReadsLimit : ℕ → Data → Result Limit Refusal → Type 0
ReadsLimit i d (Ok l) =
    (first_of (group_limit_checks i d) ≡ None)
    × (runs_of_limit l ≡ runs_in d)
    × (steps_of_limit l ≡ steps_of_group d)
    × IsFit l
    × (is_cap l ≡ is_present key.Cap d)
ReadsLimit i d (Err refusal) = first_of (group_limit_checks i d) ≡ Some refusal

-- ---- groups

abbrev pub ReadsGroupName : ℕ → Data → Result (Bor Text) Refusal → Type 0
ReadsGroupName i d (Ok name) = (first_of (group_head_checks i d) ≡ None) × (name.now ≡ name_of_entry d)
ReadsGroupName i d (Err refusal) = first_of (group_head_checks i d) ≡ Some refusal

abbrev pub ReadsArrays : ℕ → Data → Result GroupArrays Refusal → Type 0
ReadsArrays i d (Ok a) =
    (first_of (group_array_checks i d) ≡ None)
    × (map view a.hospitals.now ≡ hospitals_named d)
    × (map view a.prefectures.now ≡ prefectures_named d)
    × (map view a.groups.now ≡ groups_named d)
ReadsArrays i d (Err refusal) = first_of (group_array_checks i d) ≡ Some refusal

abbrev pub ReadsGroupShape : ℕ → Data → Result GroupShape Refusal → Type 0
ReadsGroupShape i d (Ok s) =
    (first_of (group_shape_checks i d) ≡ None)
    × (s.name.now ≡ name_of_entry d)
    × (runs_of_limit s.limit ≡ runs_in d)
    × (steps_of_limit s.limit ≡ steps_of_group d)
    × IsFit s.limit
    × (map view s.arrays.hospitals.now ≡ hospitals_named d)
    × (map view s.arrays.prefectures.now ≡ prefectures_named d)
    × (map view s.arrays.groups.now ≡ groups_named d)
    × (is_cap s.limit ≡ is_present key.Cap d)
ReadsGroupShape i d (Err refusal) = first_of (group_shape_checks i d) ≡ Some refusal

abbrev pub ReadsGroupElements : RosterData → List Text → ℕ → List Data → List Data → List Data → Result Elements ReadFault → Type 0
ReadsGroupElements r names i hospitals prefectures groups (Ok e) =
    (first_of (group_element_checks r names i hospitals prefectures groups) ≡ None)
    × (e.hospitals.items ≡ numbers_of r.hospitals hospitals)
    × (e.prefectures.items ≡ numbers_of r.prefectures prefectures)
    × (e.groups.items ≡ numbers_of names groups)
ReadsGroupElements r names i hospitals prefectures groups (Err fault) = Stops (first_of (group_element_checks r names i hospitals prefectures groups)) fault

-- the same of the values of an entry
abbrev pub ReadsElements : RosterData → List Text → ℕ → GroupArrays → Result Elements ReadFault → Type 0
ReadsElements r names i a result = ReadsGroupElements r names i (map view a.hospitals.now) (map view a.prefectures.now) (map view a.groups.now) result

abbrev pub ReadsGroup : RosterData → ℕ → List Text → Data → Result GroupEntry ReadFault → Type 0
ReadsGroup r first names d (Ok e) =
    (first_of (group_entry_checks r first names d) ≡ None)
    × (e.name.now ≡ name_of_entry d)
    × (e.elements.hospitals.items ≡ numbers_of r.hospitals (hospitals_named d))
    × (e.elements.prefectures.items ≡ numbers_of r.prefectures (prefectures_named d))
    × (e.elements.groups.items ≡ numbers_of names (groups_named d))
    × (e.steps ≡ steps_of_group d)
    × (e.by_cap ≡ is_present key.Cap d)
ReadsGroup r first names d (Err fault) = Stops (first_of (group_entry_checks r first names d)) fault

-- the entry of a value after those before it, or its first refusal
abbrev pub AddsGroup : RosterData → ℕ → GroupsData → Data → GroupsData → Result (Unit {0}) ReadFault → Type 0
AddsGroup r first old d new result = Grows (first_of (group_entry_checks r first old.names d)) (with_group r old d) new result

-- the entries of values, or their first refusal
abbrev pub ReadsGroups : RosterData → ℕ → List Data → Result GroupsData ReadFault → Type 0
ReadsGroups r first ds result = Reads (first_of (checks_of (group_checks_after r first) ds)) (groups_of r ds) result

-- ---- hospitals

abbrev pub ReadsHospitalShape : ℕ → Data → Result HospitalShape Refusal → Type 0
ReadsHospitalShape i d (Ok s) = (first_of (hospital_shape_checks i d) ≡ None) × (s.name.now ≡ name_of_entry d) × (runs_of (map view s.runs.now) ≡ runs_in d)
ReadsHospitalShape i d (Err refusal) = first_of (hospital_shape_checks i d) ≡ Some refusal

abbrev pub ReadsHospitalEntry : RosterData → (ℕ → Option ℕ) → ℕ → Data → Result HospitalEntry ReadFault → Type 0
ReadsHospitalEntry r former i d (Ok e) =
    (first_of (hospital_entry_checks r former i d) ≡ None)
    × (place_of r.hospitals (name_of_entry d) ≡ Some e.hospital)
    × (former e.hospital ≡ None)
    × (e.steps ≡ steps_in d)
ReadsHospitalEntry r former i d (Err fault) = Stops (first_of (hospital_entry_checks r former i d)) fault

-- the steps that the entries of values give, or their first refusal
abbrev pub ReadsHospitals : RosterData → ℕ → List Data → Result (List (Option (List ℤ))) ReadFault → Type 0
ReadsHospitals r first ds result = Reads (first_of (checks_of (hospital_entry_checks_after r first) ds)) (hospital_steps_of r ds) result
