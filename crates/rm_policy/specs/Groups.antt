-- The entries of groups.
use Rattle.std.specs.Prelude.{ℕ, ◌+◌, Bool, true, false, not, ◌&&◌, ◌||◌, nat_lt, List, [], ◌∷◌, ◌++◌, length, map, get_or, fold, ℤ, Option, option_map, Vec, if◌then◌else◌}
use Rattle.std.specs.List.{list_any}
use Rattle.std.specs.Option.{option_map_or}
use Rattle.std.specs.declared.alloc.Global.{Global}
use Rattle.toml.specs.Data.{Data, as_str}
use Rattle.rm_sets.specs.Sets.{has, all_below, below}
use Rattle.rm_base.specs.Checks.{check, checks_of}
use Rattle.rm_names.specs.Names.{place_of}
use Rattle.rm_base.specs.Text.{Text, is_name}
use Rattle.rm_base.specs.declared.Refusal.{Refusal}
use Rattle.rm_base.specs.declared.codes.TheConstants.{REPEATED_ENTRY, TOO_MANY_ITEMS, MOST_GROUPS, GROUPS_LIMIT}
use Rattle.rm_market.specs.Steps.{steps_of}
use Rattle.rm_roster.specs.Roster.{RosterData, hospitals_in}
use Rattle.rm_policy.specs.Values.{cap, runs, texts}
use Rattle.rm_policy.specs.Entries.{policy_refusal, bad_value, is_present, is_bad, read_at, optional, elements_at, only_keys, name_of_entry, numbers_of, name_checks}
use Rattle.rm_policy.specs.Steps.{cap_in, flat, runs_in, step_checks}
use Rattle.rm_policy.specs.Prefectures.{members_of_prefecture, order_in}
use Rattle.rm_policy.specs.declared.keys.Key.{Key}
use Rattle.rm_policy.specs.declared.keys.Key.TheVariants as key

abbrev pub group_keys : List Key
group_keys = key.Name ∷ key.Cap ∷ key.Steps ∷ key.Hospitals ∷ key.Prefectures ∷ key.Groups ∷ []

-- exactly one of `cap` and `steps`
abbrev pub cap_check : ℕ → Data → Option Refusal
cap_check i e = check (is_bad cap key.Cap e || (not (is_present key.Cap e) && not (is_present key.Steps e))) (bad_value i key.Cap)

abbrev pub steps_check : ℕ → Data → Option Refusal
steps_check i e = check (is_bad runs key.Steps e || (is_present key.Cap e && is_present key.Steps e)) (bad_value i key.Steps)

-- the limit on entries, the keys and the name of item i
abbrev pub group_head_checks : ℕ → Data → List (Option Refusal)
group_head_checks i e =
    check (nat_lt MOST_GROUPS i) (policy_refusal TOO_MANY_ITEMS i GROUPS_LIMIT)
    ∷ only_keys group_keys i e
    ∷ check (not (option_map_or is_name (read_at as_str key.Name e) false)) (bad_value i key.Name)
    ∷ []

abbrev pub group_limit_checks : ℕ → Data → List (Option Refusal)
group_limit_checks i e = cap_check i e ∷ steps_check i e ∷ []

abbrev pub group_array_checks : ℕ → Data → List (Option Refusal)
group_array_checks i e = optional texts key.Hospitals i e ∷ optional texts key.Prefectures i e ∷ optional texts key.Groups i e ∷ []

abbrev pub group_shape_checks : ℕ → Data → List (Option Refusal)
group_shape_checks i e = group_head_checks i e ++ group_limit_checks i e ++ group_array_checks i e

-- what an entry names
abbrev pub hospitals_named : Data → List Data
hospitals_named e = elements_at texts key.Hospitals e

abbrev pub prefectures_named : Data → List Data
prefectures_named e = elements_at texts key.Prefectures e

abbrev pub groups_named : Data → List Data
groups_named e = elements_at texts key.Groups e

-- each of them is known, the groups among those before; the elements count on through the three arrays
abbrev pub group_element_checks : RosterData → List Text → ℕ → List Data → List Data → List Data → List (Option Refusal)
group_element_checks r names i hospitals prefectures groups =
    checks_of (name_checks r.hospitals i 0) hospitals
    ++ checks_of (name_checks r.prefectures i (length hospitals)) prefectures
    ++ checks_of (name_checks names i (length hospitals + length prefectures)) groups

-- its name is that of no group before it
abbrev pub group_name_checks : ℕ → List Text → ℕ → Text → List (Option Refusal)
group_name_checks first names i name = option_map (λ f. policy_refusal REPEATED_ENTRY i (first + f + 1)) (place_of names name) ∷ []

-- the checks of an entry, where so many items and the groups of these names stand before it
abbrev pub group_entry_checks : RosterData → ℕ → List Text → Data → List (Option Refusal)
group_entry_checks r first names e =
    let i = first + length names + 1 in
    group_shape_checks i e
    ++ group_name_checks first names i (name_of_entry e)
    ++ group_element_checks r names i (hospitals_named e) (prefectures_named e) (groups_named e)
    ++ step_checks i (runs_in e)

abbrev pub group_checks_after : RosterData → ℕ → List Data → Data → List (Option Refusal)
group_checks_after r first before e = group_entry_checks r first (map name_of_entry before) e

-- ---- what an entry says

-- groups: the name, the hospitals and the steps of each, and whether they are given by `cap`
pub record GroupsData : Type 0 where
  pub names : List Text
  pub members : List (List ℕ)
  pub steps : List (List ℤ)
  pub by_cap : List Bool

abbrev pub no_groups : GroupsData
no_groups = record { names = []; members = []; steps = []; by_cap = [] }

-- groups, and one more
abbrev pub with_entry : GroupsData → Text → List ℕ → List ℤ → Bool → GroupsData
with_entry g name members steps by_cap =
    record { names = g.names ++ name ∷ []; members = g.members ++ members ∷ []; steps = g.steps ++ steps ∷ []; by_cap = g.by_cap ++ by_cap ∷ [] }

-- the groups of a policy, of which the first ones are those of the prefecture entries of these names
pub record PolicyGroups : Type 0 where
  pub entries : List Text
  pub groups : GroupsData

-- the items of each of these lists
abbrev pub each_set : List (Vec ℕ Global) → List (List ℕ)
each_set sets = map (λ s. s.items) sets

-- the groups of prefecture entries of these names and then those of group entries, told by what is kept of them
abbrev pub groups_kept : List Text → List Text → List (Vec ℕ Global) → List (List ℤ) → List Bool → PolicyGroups
groups_kept entries others members steps by_cap =
    record { entries = entries; groups = record { names = entries ++ others; members = each_set members; steps = steps; by_cap = by_cap } }

-- groups after groups
abbrev pub groups_joined : GroupsData → GroupsData → GroupsData
groups_joined g more =
    record { names = g.names ++ more.names; members = g.members ++ more.members; steps = g.steps ++ more.steps; by_cap = g.by_cap ++ more.by_cap }

-- h lies in one of the sets of these numbers
abbrev pub lies_in : ℕ → List (List ℕ) → List ℕ → Bool
lies_in h sets numbers = list_any (λ n. has h (get_or sets n [])) numbers

-- the hospitals of each prefecture
abbrev pub by_prefecture : RosterData → List (List ℕ)
by_prefecture r = map (hospitals_in r) (below (length r.prefectures))

-- h is named, or lies in a prefecture that is named, or in an earlier group that is named
abbrev pub is_member : RosterData → GroupsData → Data → ℕ → Bool
is_member r g e h =
    has h (numbers_of r.hospitals (hospitals_named e))
    || lies_in h (by_prefecture r) (numbers_of r.prefectures (prefectures_named e))
    || lies_in h g.members (numbers_of g.names (groups_named e))

abbrev pub members_of_group : RosterData → GroupsData → Data → List ℕ
members_of_group r g e = all_below (length r.hospitals) (is_member r g e)

abbrev pub steps_of_group : Data → List ℤ
steps_of_group e = if is_present key.Cap e then flat (cap_in e) else steps_of (runs_in e)

abbrev pub with_group : RosterData → GroupsData → Data → GroupsData
with_group r g e = with_entry g (name_of_entry e) (members_of_group r g e) (steps_of_group e) (is_present key.Cap e)

-- the groups of entries, each over those before it
abbrev pub groups_of : RosterData → List Data → GroupsData
groups_of r entries = fold (with_group r) no_groups entries

-- the groups of prefecture entries, which must have a `cap`, and their orders
pub record PrefecturesData : Type 0 where
  pub groups : GroupsData
  pub orders : List (Option (List ℕ))

abbrev pub no_prefectures : PrefecturesData
no_prefectures = record { groups = no_groups; orders = [] }

abbrev pub with_prefecture : RosterData → PrefecturesData → Data → PrefecturesData
with_prefecture r p e =
    record { groups = with_entry p.groups (name_of_entry e) (members_of_prefecture r e) (flat (cap_in e)) true; orders = p.orders ++ order_in r e ∷ [] }

abbrev pub prefectures_of : RosterData → List Data → PrefecturesData
prefectures_of r entries =
    record {
      groups = record {
        names = map name_of_entry entries;
        members = map (members_of_prefecture r) entries;
        steps = map (λ e. flat (cap_in e)) entries;
        by_cap = map (λ _. true) entries;
      };
      orders = map (order_in r) entries;
    }
