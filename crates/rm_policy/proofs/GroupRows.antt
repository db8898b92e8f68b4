-- The entries of prefectures and of groups, read one after another.
use Rattle.std.proofs.Common.{◌≡◌, ◌∙◌, ◌+◌, ◌<◌, ◌≤◌, Bool, true, ℕ, ℤ, List, [], ◌∷◌, ◌++◌, length, get_or, map, Some, None, refl, ap, sym, arith, length-append}
use Rattle.std.proofs.lemmas.List.{length-map, map_push}
use Rattle.std.proofs.lemmas.List.Sums.{fold_push}
use Rattle.toml.specs.Data.{Data}
use Rattle.toml.specs.View.{view}
use Rattle.toml.specs.declared.value.Value.{Value}
use Rattle.rm_base.specs.Checks.{first_of, checks_of}
use Rattle.rm_base.specs.Reading.{Stops}
use Rattle.rm_base.specs.declared.ReadFault.{ReadFault}
use Rattle.rm_base.specs.declared.Refusal.{Refusal}
use Rattle.rm_roster.specs.Roster.{RosterData}
use Rattle.rm_base.specs.Text.{Text}
use Rattle.rm_policy.specs.Gathered.{united}
use Rattle.rm_policy.specs.Entries.{is_present, name_of_entry, numbers_of}
use Rattle.rm_policy.specs.Groups.{GroupsData, PrefecturesData, groups_named, hospitals_named, prefectures_named, steps_of_group, with_entry, group_entry_checks, group_checks_after, groups_of, no_groups, no_prefectures, prefectures_of, with_group, with_prefecture}
use Rattle.rm_policy.specs.Prefectures.{members_of_prefecture, order_in, prefecture_checks, prefecture_checks_after}
use Rattle.rm_policy.specs.Steps.{cap_in, flat}
use Rattle.rm_policy.specs.declared.Kind.{Kind}
use Rattle.rm_policy.specs.declared.keys.Key.TheVariants as key
use Rattle.rm_policy.proofs.ElementLemmas.{AreSeen, seen-none, seen-more, seen-stop, seen-all}

-- ---- prefectures

pub record ArePrefectures (r : RosterData) (kind : Kind) (vs : List Value) (i : ℕ) (told : PrefecturesData) : Type 0 where
  pub before : List Data
  pub seen : AreSeen (prefecture_checks_after r kind) vs i before
  pub told_is : told ≡ prefectures_of r before
  pub few : length before ≤ 5000
  pub place : i ≡ length before

pub prefectures-none : (r : RosterData) (kind : Kind) (vs : List Value) (told : PrefecturesData) → told ≡ no_prefectures → ArePrefectures r kind vs 0 told
prefectures-none r kind vs told e = record { before = []; seen = seen-none (prefecture_checks_after r kind) vs; told_is = e; few = omega arith; place = refl }

prefecture-names : (r : RosterData) (before : List Data) (told : PrefecturesData) → told ≡ prefectures_of r before → told.groups.names ≡ map name_of_entry before
prefecture-names r before told e = ap (λ (p : PrefecturesData). p.groups.names) e

prefecture-at : (r : RosterData) (kind : Kind) (before : List Data) (told : PrefecturesData) (d : Data) → told ≡ prefectures_of r before → first_of (prefecture_checks r kind told.groups.names d) ≡ first_of (prefecture_checks_after r kind before d)
prefecture-at r kind before told d e = ap (λ (names : List (List ℕ)). first_of (prefecture_checks r kind names d)) (prefecture-names r before told e)

prefectures-push : (r : RosterData) (before : List Data) (d : Data) → with_prefecture r (prefectures_of r before) d ≡ prefectures_of r (before ++ d ∷ [])
prefectures-push r before d =
    rw (map_push name_of_entry before d, map_push (members_of_prefecture r) before d, map_push (λ e. flat (cap_in e)) before d, map_push (λ _. true) before d, map_push (order_in r) before d) refl

pub prefectures-more : (r : RosterData) (kind : Kind) (vs : List Value) (i : ℕ) (v : Value) (told new : PrefecturesData) → ArePrefectures r kind vs i told → i < length vs → v ≡ get_or vs i v
    → first_of (prefecture_checks r kind told.groups.names (view v)) ≡ None → new ≡ with_prefecture r told (view v) → length told.groups.names < 5000 → ArePrefectures r kind vs (i + 1) new
prefectures-more r kind vs i v told new a lt at passes more few =
    let count : length told.groups.names ≡ length a.before = ap length (prefecture-names r a.before told a.told_is) ∙ length-map a.before name_of_entry in
    record {
      before = a.before ++ view v ∷ [];
      seen = seen-more (prefecture_checks_after r kind) vs i v a.before a.seen lt at (sym (prefecture-at r kind a.before told (view v) a.told_is) ∙ passes);
      told_is = more ∙ ap (λ (p : PrefecturesData). with_prefecture r p (view v)) a.told_is ∙ prefectures-push r a.before (view v);
      few = omega (arith, length-append a.before (view v ∷ []), count, few);
      place = omega (arith, a.place, length-append a.before (view v ∷ []));
    }

pub prefectures-stop : (r : RosterData) (kind : Kind) (vs : List Value) (i : ℕ) (v : Value) (told : PrefecturesData) (refusal : Refusal) → ArePrefectures r kind vs i told → i < length vs → v ≡ get_or vs i v
    → first_of (prefecture_checks r kind told.groups.names (view v)) ≡ Some refusal → first_of (checks_of (prefecture_checks_after r kind) (map view vs)) ≡ Some refusal
prefectures-stop r kind vs i v told refusal a lt at some =
    seen-stop (prefecture_checks_after r kind) vs i v a.before refusal a.seen lt at (sym (prefecture-at r kind a.before told (view v) a.told_is) ∙ some)

pub prefectures-all : (r : RosterData) (kind : Kind) (vs : List Value) (i : ℕ) (told : PrefecturesData) → ArePrefectures r kind vs i told → length vs ≤ i
    → (first_of (checks_of (prefecture_checks_after r kind) (map view vs)) ≡ None) × (told ≡ prefectures_of r (map view vs)) × (length vs ≤ 5000)
prefectures-all r kind vs i told a h =
    let done = seen-all (prefecture_checks_after r kind) vs i a.before a.seen h in
    (done.0, a.told_is ∙ ap (prefectures_of r) (sym done.1), omega (arith, h, a.place, a.few))

-- ---- groups

pub record AreGroups (r : RosterData) (first : ℕ) (vs : List Value) (i : ℕ) (told : GroupsData) : Type 0 where
  pub before : List Data
  pub seen : AreSeen (group_checks_after r first) vs i before
  pub told_is : told ≡ groups_of r before
  pub names_are : told.names ≡ map name_of_entry before
  pub few : first + length before ≤ 5000
  pub place : i ≡ length before

pub groups-none : (r : RosterData) (first : ℕ) (vs : List Value) (told : GroupsData) → first ≤ 5000 → told ≡ no_groups → AreGroups r first vs 0 told
groups-none r first vs told within e = record { before = []; seen = seen-none (group_checks_after r first) vs; told_is = e; names_are = ap (λ (g : GroupsData). g.names) e; few = omega (arith, within); place = refl }

group-at : (r : RosterData) (first : ℕ) (before : List Data) (told : GroupsData) (d : Data) → told.names ≡ map name_of_entry before → first_of (group_entry_checks r first told.names d) ≡ first_of (group_checks_after r first before d)
group-at r first before told d e = ap (λ (names : List (List ℕ)). first_of (group_entry_checks r first names d)) e

pub groups-more : (r : RosterData) (first : ℕ) (vs : List Value) (i : ℕ) (v : Value) (told new : GroupsData) → AreGroups r first vs i told → i < length vs → v ≡ get_or vs i v
    → first_of (group_entry_checks r first told.names (view v)) ≡ None → new ≡ with_group r told (view v) → first + length told.names < 5000 → AreGroups r first vs (i + 1) new
groups-more r first vs i v told new a lt at passes more few =
    let count : length told.names ≡ length a.before = ap length a.names_are ∙ length-map a.before name_of_entry in
    record {
      before = a.before ++ view v ∷ [];
      seen = seen-more (group_checks_after r first) vs i v a.before a.seen lt at (sym (group-at r first a.before told (view v) a.names_are) ∙ passes);
      told_is = more ∙ ap (λ (g : GroupsData). with_group r g (view v)) a.told_is ∙ sym (fold_push (with_group r) no_groups a.before (view v));
      names_are = ap (λ (g : GroupsData). g.names) more ∙ ap (λ (names : List (List ℕ)). names ++ name_of_entry (view v) ∷ []) a.names_are ∙ sym (map_push name_of_entry a.before (view v));
      few = omega (arith, length-append a.before (view v ∷ []), count, few);
      place = omega (arith, a.place, length-append a.before (view v ∷ []));
    }

pub groups-stop : (r : RosterData) (first : ℕ) (vs : List Value) (i : ℕ) (v : Value) (told : GroupsData) (refusal : Refusal) → AreGroups r first vs i told → i < length vs → v ≡ get_or vs i v
    → first_of (group_entry_checks r first told.names (view v)) ≡ Some refusal → first_of (checks_of (group_checks_after r first) (map view vs)) ≡ Some refusal
groups-stop r first vs i v told refusal a lt at some =
    seen-stop (group_checks_after r first) vs i v a.before refusal a.seen lt at (sym (group-at r first a.before told (view v) a.names_are) ∙ some)

pub groups-all : (r : RosterData) (first : ℕ) (vs : List Value) (i : ℕ) (told : GroupsData) → AreGroups r first vs i told → length vs ≤ i
    → (first_of (checks_of (group_checks_after r first) (map view vs)) ≡ None) × (told ≡ groups_of r (map view vs)) × (first + length vs ≤ 5000)
groups-all r first vs i told a h =
    let done = seen-all (group_checks_after r first) vs i a.before a.seen h in
    (done.0, a.told_is ∙ ap (groups_of r) (sym done.1), omega (arith, h, a.place, a.few))

-- what is added is the next group
pub group-added : (r : RosterData) (g : GroupsData) (d : Data) (new : GroupsData) (name : Text) (members : List ℕ) (steps : List ℤ) (by_cap : Bool) (hs ps gs : List ℕ) (sets : List (List ℕ))
    → new ≡ with_entry g name members steps by_cap → name ≡ name_of_entry d → steps ≡ steps_of_group d → by_cap ≡ is_present key.Cap d → members ≡ united r hs ps sets gs → hs ≡ numbers_of r.hospitals (hospitals_named d) → ps ≡ numbers_of r.prefectures (prefectures_named d)
    → sets ≡ g.members → gs ≡ numbers_of g.names (groups_named d) → new ≡ with_group r g d
group-added r g d new name members steps by_cap hs ps gs sets is name_is steps_is cap_is members_are hs_are ps_are sets_are gs_are = is ∙ rw (name_is, steps_is, cap_is, members_are, hs_are, ps_are, sets_are, gs_are) refl

-- the same by the names that are kept
pub group-fault : (r : RosterData) (first : ℕ) (names same : List Text) (d : Data) (fault : ReadFault) → names ≡ same → Stops (first_of (group_entry_checks r first names d)) fault → Stops (first_of (group_entry_checks r first same d)) fault
group-fault r first names same d fault e h = rw e at h

pub group-passes : (r : RosterData) (first : ℕ) (names same : List Text) (d : Data) → names ≡ same → first_of (group_entry_checks r first names d) ≡ None → first_of (group_entry_checks r first same d) ≡ None
group-passes r first names same d e h = rw e at h
