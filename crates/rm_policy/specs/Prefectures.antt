-- The entries of prefectures.
use Rattle.std.specs.Prelude.{ℕ, ◌+◌, Bool, false, not, ◌&&◌, ◌==◌, nat_lt, List, [], ◌∷◌, ◌++◌, length, map, slice_index, sum_by, Option, Some, None, option_map, is_none, unwrap_or}
use Rattle.std.specs.List.{list_any}
use Rattle.std.specs.Option.{option_map_or}
use Rattle.toml.specs.Data.{Data, as_str}
use Rattle.rm_sets.specs.Sets.{has}
use Rattle.rm_base.specs.Checks.{check, checks_of}
use Rattle.rm_names.specs.Names.{place_of}
use Rattle.rm_base.specs.Text.{Text}
use Rattle.rm_base.specs.declared.Refusal.{Refusal}
use Rattle.rm_base.specs.declared.codes.TheConstants.{UNKNOWN_ENTRY_NAME, REPEATED_ENTRY, WRONG_ORDER, TARGETS_ABOVE_CAP, TOO_MANY_ITEMS, MOST_GROUPS, GROUPS_LIMIT}
use Rattle.rm_roster.specs.Roster.{RosterData, hospitals_in}
use Rattle.rm_policy.specs.Values.{cap, texts}
use Rattle.rm_policy.specs.Entries.{policy_refusal, read_at, required, optional, only_keys, name_of_entry, number_named, numbers_of}
use Rattle.rm_policy.specs.Steps.{cap_in}
use Rattle.rm_policy.specs.Top.{is_flexible}
use Rattle.rm_policy.specs.declared.Kind.{Kind}
use Rattle.rm_policy.specs.declared.keys.Key.{Key}
use Rattle.rm_policy.specs.declared.keys.Key.TheVariants as key

-- the sum of the targets of hospitals, and of those of a prefecture
abbrev pub sum_of_targets : RosterData → List ℕ → ℕ
sum_of_targets r hospitals = sum_by (slice_index r.targets) hospitals

abbrev pub targets_of : RosterData → ℕ → ℕ
targets_of r p = sum_of_targets r (hospitals_in r p)

-- ---- the order of a prefecture

-- an element fits that names a hospital of prefecture p that no element before it names
abbrev pub fits : RosterData → ℕ → List ℕ → Option ℕ → Bool
fits r p named number = option_map_or (λ h. (slice_index r.prefecture_of h == p) && not (has h named)) number false

abbrev pub order_element_checks : RosterData → ℕ → ℕ → List Data → Data → List (Option Refusal)
order_element_checks r i p before d =
    check (not (fits r p (numbers_of r.hospitals before) (number_named r.hospitals d))) (policy_refusal WRONG_ORDER i (length before + 1)) ∷ []

-- a hospital of the prefecture is not among these
abbrev pub is_missing : List ℕ → List ℕ → Bool
is_missing hospitals order = list_any (λ h. not (has h order)) hospitals

abbrev pub order_checks : RosterData → ℕ → ℕ → Option (List Data) → List (Option Refusal)
order_checks r i p None = []
order_checks r i p (Some ds) =
    checks_of (order_element_checks r i p) ds
    ++ check (is_missing (hospitals_in r p) (numbers_of r.hospitals ds)) (policy_refusal WRONG_ORDER i (length ds + 1)) ∷ []

-- ---- an entry, item i

abbrev pub prefecture_keys : List Key
prefecture_keys = key.Name ∷ key.Cap ∷ key.Order ∷ []

-- the limit on entries, and the shapes of the values
abbrev pub prefecture_shape_checks : ℕ → Data → List (Option Refusal)
prefecture_shape_checks i e =
    check (nat_lt MOST_GROUPS i) (policy_refusal TOO_MANY_ITEMS i GROUPS_LIMIT)
    ∷ only_keys prefecture_keys i e
    ∷ required as_str key.Name i e
    ∷ required cap key.Cap i e
    ∷ optional texts key.Order i e
    ∷ []

-- the prefecture that an entry names
abbrev pub prefecture_of_entry : RosterData → Data → ℕ
prefecture_of_entry r e = unwrap_or (place_of r.prefectures (name_of_entry e)) 0

-- the targets of prefecture p must fit under the cap, with kind `flexible` alone
abbrev pub targets_check : RosterData → Kind → ℕ → ℕ → ℕ → Option Refusal
targets_check r kind i p cap =
    check (is_flexible kind && nat_lt cap (targets_of r p)) (policy_refusal TARGETS_ABOVE_CAP i (targets_of r p))

-- its name is that of a prefecture, and of no entry before it
abbrev pub prefecture_name_checks : List Text → List Text → ℕ → Text → List (Option Refusal)
prefecture_name_checks prefectures names i name =
    check (is_none (place_of prefectures name)) (policy_refusal UNKNOWN_ENTRY_NAME i 0)
    ∷ option_map (λ f. policy_refusal REPEATED_ENTRY i (f + 1)) (place_of names name)
    ∷ []

-- the checks of an entry, with the names of the entries before it
abbrev pub prefecture_checks : RosterData → Kind → List Text → Data → List (Option Refusal)
prefecture_checks r kind names e =
    let i = length names + 1 in
    let p = prefecture_of_entry r e in
    prefecture_shape_checks i e
    ++ prefecture_name_checks r.prefectures names i (name_of_entry e)
    ++ order_checks r i p (read_at texts key.Order e)
    ++ targets_check r kind i p (cap_in e)
    ∷ []

abbrev pub prefecture_checks_after : RosterData → Kind → List Data → Data → List (Option Refusal)
prefecture_checks_after r kind before e = prefecture_checks r kind (map name_of_entry before) e

-- ---- what an entry says

abbrev pub members_of_prefecture : RosterData → Data → List ℕ
members_of_prefecture r e = hospitals_in r (prefecture_of_entry r e)

abbrev pub order_in : RosterData → Data → Option (List ℕ)
order_in r e = option_map (numbers_of r.hospitals) (read_at texts key.Order e)
