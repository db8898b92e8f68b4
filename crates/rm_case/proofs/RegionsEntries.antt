-- With a flexible policy that was read each group is the entry of a prefecture.
use Rattle.std.proofs.Common.{◌≡◌, ◌∙◌, ◌+◌, ◌<◌, ◌≤◌, ◌&&◌, ℕ, true, false, not, List, [], ◌∷◌, ◌++◌, length, get_or, map, take, Option, Some, None, refl, sym, ap, subst, arith, All, pos}
use Rattle.std.specs.Prelude.{option_and_then, is_none, is_some, slice_get, unwrap_or, nat_lt}
use Rattle.std.specs.Str.{bytes_eq}
use Rattle.std.proofs.lemmas.Bool.{ltb-false}
use Rattle.std.proofs.lemmas.List.{append-nil, get_or-map, get_or_append_left, get_or-take, length-append, length-map, length-replicate, length-take}
use Rattle.std.proofs.lemmas.List.Elements.{All-get_or, All-nil, All-push}
use Rattle.std.proofs.lemmas.List.Quantifiers.{position-Some}
use Rattle.std.proofs.lemmas.Option.{slice_get-get_or}
use Rattle.std.proofs.lemmas.Slice.Eq.{bytes_eq-Decides}
use Rattle.toml.specs.Data.{Data}
use Rattle.rm_base.specs.Checks.{checks_of, first_of}
use Rattle.rm_names.specs.Names.{place_of, AreDistinct}
use Rattle.rm_base.specs.Text.{Text}
use Rattle.rm_base.specs.declared.codes.TheConstants.{KEY_NOT_FOR_KIND, REPEATED_ENTRY, TARGETS_ABOVE_CAP, UNKNOWN_ENTRY_NAME}
use Rattle.rm_base.proofs.CheckLemmas.{check-none, mapped-none, none-each, none-parts, passed}
use Rattle.rm_board_laws.proofs.Searches.{some_from}
use Rattle.rm_policy.specs.Entries.{elements_at, is_present, name_of_entry, policy_refusal, read_at, value_at}
use Rattle.rm_policy.specs.Groups.{groups_of}
use Rattle.rm_policy.specs.Keys.{key_number}
use Rattle.rm_policy.specs.Policy.{PolicyData, policy_of}
use Rattle.rm_policy.specs.Prefectures.{members_of_prefecture, order_checks, order_in as entry_order, prefecture_checks, prefecture_checks_after, prefecture_of_entry, prefecture_name_checks, prefecture_shape_checks, targets_check, targets_of}
use Rattle.rm_policy.specs.Steps.{cap_in, flat}
use Rattle.rm_policy.specs.Top.{group_entries, is_flexible, kind_in, prefecture_entries, top_checks}
use Rattle.rm_policy.specs.Values.{tables, texts}
use Rattle.rm_policy.specs.declared.Kind.{Kind}
use Rattle.rm_policy.specs.declared.keys.Key.{Key}
use Rattle.rm_policy.specs.declared.keys.Key.TheVariants as key
use Rattle.rm_roster.specs.Roster.{RosterData}
use Rattle.rm_case.specs.Compiled.{cap_of_prefecture, entry_of_prefecture}
use Rattle.rm_case.specs.Suits.{IsEntryOf}

-- ---- an entry that passes its checks

-- no part of an entry's checks finds a fault
pub record IsPassed (r : RosterData) (kind : Kind) (names : List Text) (d : Data) : Type 0 where
  pub named : first_of (prefecture_name_checks r.prefectures names (length names + 1) (name_of_entry d)) ≡ None
  pub order : first_of (order_checks r (length names + 1) (prefecture_of_entry r d) (read_at texts key.Order d)) ≡ None
  pub targets : targets_check r kind (length names + 1) (prefecture_of_entry r d) (cap_in d) ≡ None

pub passes : (r : RosterData) (kind : Kind) (names : List Text) (d : Data) → first_of (prefecture_checks r kind names d) ≡ None → IsPassed r kind names d
passes r kind names d e =
    let i = length names + 1 in
    let p = prefecture_of_entry r d in
    let shape = prefecture_shape_checks i d in
    let name = prefecture_name_checks r.prefectures names i (name_of_entry d) in
    let order = order_checks r i p (read_at texts key.Order d) in
    let targets = targets_check r kind i p (cap_in d) ∷ [] in
    let all = none-parts (shape ++ name ++ order) targets e in
    let front = none-parts (shape ++ name) order all.0 in
    record { named = (none-parts shape name front.0).1; order = front.1; targets = (none-each targets all.1).0 }

-- its name is new
pub name_new : (r : RosterData) (kind : Kind) (names : List Text) (d : Data) → IsPassed r kind names d → place_of names (name_of_entry d) ≡ None
name_new r kind names d ok =
    let i = length names + 1 in
    mapped-none (λ f. policy_refusal REPEATED_ENTRY i (f + 1)) (place_of names (name_of_entry d)) (none-each (prefecture_name_checks r.prefectures names i (name_of_entry d)) ok.named).1.0

-- an entry of a known prefecture, whose cap has room for the targets where the kind is flexible
record IsKnown (r : RosterData) (kind : Kind) (d : Data) : Type 0 where
  name : place_of r.prefectures (name_of_entry d) ≡ Some (prefecture_of_entry r d)
  targets : is_flexible kind ≡ true → targets_of r (prefecture_of_entry r d) ≤ cap_in d

name_known : (r : RosterData) (kind : Kind) (names : List Text) (d : Data) → IsPassed r kind names d → place_of r.prefectures (name_of_entry d) ≡ Some (prefecture_of_entry r d)
name_known r kind names d ok =
    let i = length names + 1 in
    let o = place_of r.prefectures (name_of_entry d) in
    let found = some_from o (check-none (is_none o) (policy_refusal UNKNOWN_ENTRY_NAME i 0) (none-each (prefecture_name_checks r.prefectures names i (name_of_entry d)) ok.named).0) in
    found.1 ∙ ap (λ (k : ℕ). Some k) (sym (ap (λ (p : Option ℕ). unwrap_or p 0) found.1))

targets_fit : (r : RosterData) (kind : Kind) (names : List Text) (d : Data) → IsPassed r kind names d → is_flexible kind ≡ true → targets_of r (prefecture_of_entry r d) ≤ cap_in d
targets_fit r kind names d ok flexible =
    let all = targets_of r (prefecture_of_entry r d) in
    let off = check-none (is_flexible kind && nat_lt (cap_in d) all) (policy_refusal TARGETS_ABOVE_CAP (length names + 1) all) ok.targets in
    ltb-false (cap_in d) all (rw flexible at off)

entries_known : (r : RosterData) (kind : Kind) (ds : List Data) → first_of (checks_of (prefecture_checks_after r kind) ds) ≡ None → All (IsKnown r kind) ds
entries_known r kind ds e =
    passed (prefecture_checks_after r kind) (All (IsKnown r kind)) (All-nil (IsKnown r kind))
    (λ before d all none.
    let ok = passes r kind (map name_of_entry before) d none in
    All-push (IsKnown r kind) before d all (record { name = name_known r kind (map name_of_entry before) d ok; targets = targets_fit r kind (map name_of_entry before) d ok }))
    ds e

-- ---- a flexible policy has no entries of groups

absent : (d : Data) (k : Key) → is_present k d ≡ false → elements_at tables k d ≡ []
absent d k e = by (value_at k d) e
  where
    by : (o : Option Data) → is_some o ≡ false → unwrap_or (option_and_then tables o) [] ≡ []
    by None e = refl
    by (Some x) e = absurd (cc e)

no_group_entries : (d : Data) → first_of (top_checks d) ≡ None → is_flexible (kind_in d) ≡ true → group_entries d ≡ []
no_group_entries d quiet flexible =
    let only = (none-each (top_checks d) quiet).1.1.1.1.1.1.1.1.1.0 in
    let off = check-none (not (not (is_flexible (kind_in d))) && is_present key.Group d) (policy_refusal KEY_NOT_FOR_KIND 0 (key_number key.Group)) only in
    absent d key.Group (rw flexible at off)

-- ---- the entry of a prefecture, found by its name

pub entry_found : (r : RosterData) (p : PolicyData) (q g : ℕ) → AreDistinct (take (length p.orders) p.groups.names) → length p.orders ≤ length p.groups.names → g < length p.orders
    → place_of r.prefectures (get_or p.groups.names g []) ≡ Some q → entry_of_prefecture r p q ≡ Some g
entry_found r p q g apart long lt e =
    let names = take (length p.orders) p.groups.names in
    let name = get_or p.groups.names g [] in
    let at = position-Some (bytes_eq name) r.prefectures q [] e in
    let same : name ≡ get_or r.prefectures q [] = (bytes_eq-Decides name (get_or r.prefectures q [])).0 at.1 in
    let inside : g < length names = omega (arith, lt, length-take (length p.orders) p.groups.names, long) in
    let here : slice_get names g ≡ Some name = slice_get-get_or names g [] inside ∙ ap (λ (n : Text). Some n) (get_or-take (length p.orders) p.groups.names g [] lt) in
    subst (λ (n : Text). place_of names n ≡ Some g) same (apart.found g name here)

-- ---- the groups of a flexible policy

module _ (r : RosterData) (d : Data) (quiet : first_of (top_checks d) ≡ None) (passed : first_of (checks_of (prefecture_checks_after r (kind_in d)) (prefecture_entries d)) ≡ None) (flexible : is_flexible (kind_in d) ≡ true) where
  abbrev ps : List Data
  ps = prefecture_entries d

  abbrev policy : PolicyData
  policy = policy_of r d

  members_are : policy.groups.members ≡ map (members_of_prefecture r) ps
  members_are = rw (no_group_entries d quiet flexible) (append-nil (map (members_of_prefecture r) ps))

  -- the group of entry g
  group_is : (g : ℕ) → AreDistinct (take (length policy.orders) policy.groups.names) → g < length ps → IsEntryOf r policy (prefecture_of_entry r (get_or ps g d)) g
  group_is g apart lt =
      let e = get_or ps g d in
      let q = prefecture_of_entry r e in
      let known : IsKnown r (kind_in d) e = All-get_or (IsKnown r (kind_in d)) ps g d lt (entries_known r (kind_in d) ps passed) in
      let orders = length-map ps (entry_order r) in
      let name : get_or policy.groups.names g [] ≡ name_of_entry e =
      get_or_append_left (map name_of_entry ps) (groups_of r (group_entries d)).names [] g (omega (arith, lt, length-map ps name_of_entry)) ∙ get_or-map name_of_entry ps g d [] lt in
      let place : place_of r.prefectures (get_or policy.groups.names g []) ≡ Some q = ap (λ (n : Text). place_of r.prefectures n) name ∙ known.name in
      let long : length policy.orders ≤ length policy.groups.names = omega (arith, orders, length-map ps name_of_entry, length-append (map name_of_entry ps) (groups_of r (group_entries d)).names) in
      let found = entry_found r policy q g apart long (omega (arith, lt, orders)) place in
      let steps : get_or policy.groups.steps g [] ≡ flat (cap_in e) =
      get_or_append_left (map (λ x. flat (cap_in x)) ps) (groups_of r (group_entries d)).steps [] g (omega (arith, lt, length-map ps (λ (x : Data). flat (cap_in x)))) ∙ get_or-map (λ (x : Data). flat (cap_in x)) ps g d [] lt in
      let cap : cap_of_prefecture r policy q ≡ cap_in e = rw (found, steps) (length-replicate (cap_in e) (pos 0)) in
      record {
        prefecture = (position-Some (bytes_eq (name_of_entry e)) r.prefectures q [] known.name).0;
        entry = found;
        hospitals = get_or_append_left (map (members_of_prefecture r) ps) (groups_of r (group_entries d)).members [] g (omega (arith, lt, length-map ps (members_of_prefecture r))) ∙ get_or-map (members_of_prefecture r) ps g d [] lt;
        steps = steps ∙ ap flat (sym cap);
        targets = omega (arith, known.targets flexible, cap);
      }

  pub entries_flexible : AreDistinct (take (length policy.orders) policy.groups.names) → (g : ℕ) → g < length policy.groups.members → (q : ℕ) × IsEntryOf r policy q g
  entries_flexible apart g lt =
      let inside : g < length ps = omega (arith, lt, ap length members_are, length-map ps (members_of_prefecture r)) in
      (prefecture_of_entry r (get_or ps g d), group_is g apart inside)
