-- What reading values and entries answers.
use Rattle.std.specs.Prelude.{◌≡◌, ℕ, Bool, true, false, not, ◌&&◌, ◌==◌, slice_index, List, get_or, map, option_map, Option, Some, None, Result, Ok, Err, Vec}
use Rattle.std.specs.Borrow.{Bor}
use Rattle.std.specs.Option.{option_map_or}
use Rattle.std.specs.declared.alloc.Global.{Global}
use Rattle.toml.specs.Data.{Data}
use Rattle.toml.specs.View.{view}
use Rattle.toml.specs.declared.value.Value.{Value}
use Rattle.rm_base.specs.Checks.{checks_of, first_of}
use Rattle.rm_base.specs.Reading.{Stops}
use Rattle.rm_base.specs.Text.{Text}
use Rattle.rm_base.specs.declared.ReadFault.{ReadFault}
use Rattle.rm_base.specs.declared.Refusal.{Refusal}
use Rattle.rm_sets.specs.Sets.{has}
use Rattle.rm_roster.specs.Roster.{RosterData}
use Rattle.rm_policy.specs.Values.{elements_of, ties, pairs}
use Rattle.rm_policy.specs.Entries.{value_at, is_present, is_bad, read_at, elements_at, numbers_of}
use Rattle.rm_policy.specs.Prefectures.{order_checks, order_element_checks}
use Rattle.rm_policy.specs.Top.{top_checks, kind_in, ties_in, prefecture_entries, group_entries, hospital_entries}
use Rattle.rm_policy.specs.declared.Ties.{Ties}
use Rattle.rm_policy.specs.declared.entries.Found.{Found}
use Rattle.rm_policy.specs.declared.entries.Found.TheVariants as found
use Rattle.rm_policy.specs.declared.keys.Key.{Key}
use Rattle.rm_policy.specs.declared.keys.Key.TheVariants as key
use Rattle.rm_policy.specs.declared.top.Top.{Top}
use Rattle.rm_policy.specs.declared.values.NamedPair.{NamedPair}
use Rattle.rm_policy.specs.declared.values.Shape.{Shape}

abbrev pub ReadsPair : Option (Text × Text) → Option NamedPair → Type 0
ReadsPair p (Some q) = p ≡ Some (q.doctor.now, q.hospital.now)
ReadsPair p None = p ≡ None

-- what stands at a key that may be absent, and is to be an array whose elements have a shape
abbrev pub FindsArray : Shape → Key → Data → Found → Type 0
FindsArray s k d found.Absent = value_at k d ≡ None
FindsArray s k d found.Bad = (is_present k d ≡ true) × (read_at (elements_of s) k d ≡ None)
FindsArray s k d (found.Good values) = (is_present k d ≡ true) × (read_at (elements_of s) k d ≡ Some (map view values.now))

-- what passes a check, as a list of data, or the refusal
abbrev pub ReadsList : Option Refusal → List Data → Result (Bor (List Value)) Refusal → Type 0
ReadsList check all (Ok values) = (check ≡ None) × (map view values.now ≡ all)
ReadsList check all (Err refusal) = check ≡ Some refusal

-- the data of a list of values that may be absent
abbrev pub data_of : Option (Bor (List Value)) → Option (List Data)
data_of values = option_map (λ s. map view s.now) values

-- what passes a check, as a list of data that may be absent, or the refusal
abbrev pub ReadsOptional : Option Refusal → Option (List Data) → Result (Option (Bor (List Value))) Refusal → Type 0
ReadsOptional check all (Ok values) = (check ≡ None) × (data_of values ≡ all)
ReadsOptional check all (Err refusal) = check ≡ Some refusal

-- what passes its checks, as a list, or the fault
abbrev pub ReadsItems : {X : Type 0} → Option Refusal → List X → Result (Vec X Global) ReadFault → Type 0
ReadsItems first all (Ok told) = (first ≡ None) × (told.items ≡ all)
ReadsItems first all (Err e) = Stops first e

abbrev pub ReadsNumbers : Option Refusal → List ℕ → Result (Vec ℕ Global) ReadFault → Type 0
ReadsNumbers first all r = ReadsItems first all r

-- the marks of a list: each number has one exactly where it is in the list
pub record AreMarks (marks : List Bool) (list : List ℕ) : Type 0 where
  pub each : (h : ℕ) → get_or marks h false ≡ has h list

-- an element fits that names a hospital of prefecture p that has no mark
abbrev pub fits_marked : RosterData → ℕ → List Bool → Option ℕ → Bool
fits_marked r p marks number = option_map_or (λ h. (slice_index r.prefecture_of h == p) && not (get_or marks h false)) number false

-- the hospitals of an order, where each element fits
abbrev pub ReadsOrderElements : RosterData → ℕ → ℕ → List Data → Result (Vec ℕ Global) ReadFault → Type 0
ReadsOrderElements r i p ds result = ReadsNumbers (first_of (checks_of (order_element_checks r i p) ds)) (numbers_of r.hospitals ds) result

-- the same, where no hospital of the prefecture is missing
abbrev pub ReadsOrder : RosterData → ℕ → ℕ → List Data → Result (Vec ℕ Global) ReadFault → Type 0
ReadsOrder r i p ds result = ReadsNumbers (first_of (order_checks r i p (Some ds))) (numbers_of r.hospitals ds) result

-- the tie order, unless its value is bad
abbrev pub ReadsTies : Data → Option Ties → Type 0
ReadsTies d (Some t) = (is_bad ties key.Ties d ≡ false) × (t ≡ ties_in d)
ReadsTies d None = is_bad ties key.Ties d ≡ true

abbrev pub ReadsTop : Data → Result Top Refusal → Type 0
ReadsTop d (Ok top) =
    (first_of (top_checks d) ≡ None)
    × (top.kind ≡ kind_in d)
    × (top.ties ≡ ties_in d)
    × (map view top.listed.now ≡ elements_at pairs key.Listed d)
    × (map view top.prefectures.now ≡ prefecture_entries d)
    × (map view top.groups.now ≡ group_entries d)
    × (map view top.hospitals.now ≡ hospital_entries d)
ReadsTop d (Err refusal) = first_of (top_checks d) ≡ Some refusal
