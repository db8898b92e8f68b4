-- What reading an entry answers.
use Rattle.std.specs.Prelude.{◌≡◌, ◌&&◌, nat_lt, if◌then◌else◌, ℕ, List, option_map, Option, Some, None, Result, Ok, Err, Vec}
use Rattle.std.specs.Borrow.{Bor}
use Rattle.std.specs.declared.alloc.Global.{Global}
use Rattle.toml.specs.Data.{Data}
use Rattle.toml.specs.declared.value.Value.{Value}
use Rattle.rm_base.specs.Checks.{checks_of, first_of}
use Rattle.rm_names.specs.Names.{place_of}
use Rattle.rm_base.specs.Reading.{Grows, Reads, Stops}
use Rattle.rm_base.specs.Text.{Text}
use Rattle.rm_base.specs.declared.ReadFault.{ReadFault}
use Rattle.rm_base.specs.declared.Refusal.{Refusal}
use Rattle.rm_roster.specs.Roster.{RosterData}
use Rattle.rm_policy.specs.Answers.{data_of}
use Rattle.rm_policy.specs.Entries.{name_of_entry, numbers_of, read_at}
use Rattle.rm_policy.specs.Groups.{PrefecturesData, prefectures_of, with_prefecture}
use Rattle.rm_policy.specs.Prefectures.{members_of_prefecture, order_checks, order_in, prefecture_checks, prefecture_checks_after, prefecture_name_checks, prefecture_shape_checks}
use Rattle.rm_policy.specs.Steps.{cap_in}
use Rattle.rm_policy.specs.Top.{is_flexible}
use Rattle.rm_policy.specs.Values.{texts}
use Rattle.rm_policy.specs.declared.Kind.{Kind}
use Rattle.rm_policy.specs.declared.keys.Key.TheVariants as key
use Rattle.rm_policy.specs.declared.prefectures.PrefectureEntry.{PrefectureEntry}
use Rattle.rm_policy.specs.declared.prefectures.PrefectureShape.{PrefectureShape}

-- ---- prefectures

abbrev pub ReadsPrefectureShape : ℕ → Data → Result PrefectureShape Refusal → Type 0
ReadsPrefectureShape i d (Ok s) =
    (first_of (prefecture_shape_checks i d) ≡ None)
    × (s.name.now ≡ name_of_entry d)
    × (s.cap ≡ cap_in d)
    × (data_of s.order ≡ read_at texts key.Order d)
ReadsPrefectureShape i d (Err refusal) = first_of (prefecture_shape_checks i d) ≡ Some refusal

abbrev pub FindsPrefecture : List Text → List Text → Text → ℕ → Result ℕ Refusal → Type 0
FindsPrefecture prefectures names name i (Ok p) =
    (first_of (prefecture_name_checks prefectures names i name) ≡ None)
    × (place_of prefectures name ≡ Some p)
    × (place_of names name ≡ None)
FindsPrefecture prefectures names name i (Err refusal) = first_of (prefecture_name_checks prefectures names i name) ≡ Some refusal

-- the sum of targets, where the kind is flexible and the cap is less
abbrev pub targets_above : Kind → ℕ → ℕ → Option ℕ
targets_above kind cap targets = if is_flexible kind && nat_lt cap targets then Some targets else None

-- the items of a list that may be absent
abbrev pub items_of : Option (Vec ℕ Global) → Option (List ℕ)
items_of list = option_map (λ v. v.items) list

abbrev pub ReadsPrefectureOrder : RosterData → ℕ → ℕ → Option (Bor (List Value)) → Result (Option (Vec ℕ Global)) ReadFault → Type 0
ReadsPrefectureOrder r i p order (Ok told) = (first_of (order_checks r i p (data_of order)) ≡ None)
    × (items_of told ≡ option_map (numbers_of r.hospitals) (data_of order))
ReadsPrefectureOrder r i p order (Err fault) = Stops (first_of (order_checks r i p (data_of order))) fault

abbrev pub ReadsPrefecture : RosterData → Kind → List Text → Data → Result PrefectureEntry ReadFault → Type 0
ReadsPrefecture r kind names d (Ok e) =
    (first_of (prefecture_checks r kind names d) ≡ None)
    × (e.name.now ≡ name_of_entry d)
    × (e.members.items ≡ members_of_prefecture r d)
    × (e.cap ≡ cap_in d)
    × (items_of e.order ≡ order_in r d)
ReadsPrefecture r kind names d (Err fault) = Stops (first_of (prefecture_checks r kind names d)) fault

-- the entry of a value after those before it, or its first refusal
abbrev pub AddsPrefecture : RosterData → Kind → PrefecturesData → Data → PrefecturesData → Result (Unit {0}) ReadFault → Type 0
AddsPrefecture r kind old d new result = Grows (first_of (prefecture_checks r kind old.groups.names d)) (with_prefecture r old d) new result

-- the entries of values, or their first refusal
abbrev pub ReadsPrefectures : RosterData → Kind → List Data → Result PrefecturesData ReadFault → Type 0
ReadsPrefectures r kind ds result = Reads (first_of (checks_of (prefecture_checks_after r kind) ds)) (prefectures_of r ds) result
