-- The policy of a document and a roster, or its first refusal.
use Rattle.std.specs.Prelude.{◌≡◌, ◌≤◌, Result, Ok, Err, Bool, true, false, ℕ, ◌+◌, List, [], ◌∷◌, ◌++◌, All, length, get_or, map, take, drop, filter_map, ℤ, pos, Option, Some, None, option_map}
use Rattle.std.specs.Option.{option_or}
use Rattle.toml.specs.Data.{Data}
use Rattle.toml.specs.View.{view}
use Rattle.toml.specs.declared.value.Value.{Value}
use Rattle.rm_base.specs.Checks.{checks_of, first_of}
use Rattle.rm_base.specs.Reading.{Stops}
use Rattle.rm_base.specs.declared.ReadFault.{ReadFault}
use Rattle.rm_base.specs.declared.ReadFault.TheVariants as fault
use Rattle.rm_names.specs.Names.{place_of}
use Rattle.rm_base.specs.Text.{Text}
use Rattle.rm_market.specs.declared.ListedPair.{ListedPair}
use Rattle.rm_base.specs.declared.Refusal.{Refusal}
use Rattle.rm_base.specs.declared.codes.TheConstants.{MOST_GROUPS, NOT_TOML}
use Rattle.rm_roster.specs.Roster.{RosterData}
use Rattle.rm_policy.specs.Values.{pair, pairs}
use Rattle.rm_policy.specs.Entries.{policy_refusal, elements_at}
use Rattle.rm_policy.specs.Top.{top_checks, kind_in, ties_in, prefecture_entries, group_entries, hospital_entries}
use Rattle.rm_policy.specs.Prefectures.{prefecture_checks_after}
use Rattle.rm_policy.specs.Groups.{GroupsData, PolicyGroups, group_checks_after, groups_of, groups_joined, no_groups, prefectures_of}
use Rattle.rm_policy.specs.Hospitals.{hospital_entry_checks_after, hospital_steps_of}
use Rattle.rm_policy.specs.declared.Kind.{Kind}
use Rattle.rm_policy.specs.declared.Kind.TheVariants as kinds
use Rattle.rm_policy.specs.declared.Ties.{Ties}
use Rattle.rm_policy.specs.declared.Ties.TheVariants as tie
use Rattle.rm_policy.specs.declared.keys.Key.TheVariants as key
use Rattle.rm_policy.specs.declared.policy.Entries.{Entries}
use Rattle.rm_policy.specs.declared.top.Top.{Top}

-- the checks of entries: items count from 1 through those of prefectures, of groups and of hospitals
abbrev pub entry_checks : RosterData → Kind → List Data → List Data → List Data → List (Option Refusal)
entry_checks r kind prefectures groups hospitals =
    checks_of (prefecture_checks_after r kind) prefectures
    ++ checks_of (group_checks_after r (length prefectures)) groups
    ++ checks_of (hospital_entry_checks_after r (length prefectures + length groups)) hospitals

-- the checks of a document: those of its top, and then those of its entries
abbrev pub policy_checks : RosterData → Option Data → List (Option Refusal)
policy_checks r None = Some (policy_refusal NOT_TOML 0 0) ∷ []
policy_checks r (Some d) = top_checks d ++ entry_checks r (kind_in d) (prefecture_entries d) (group_entries d) (hospital_entries d)

-- What a policy says. The groups are the prefecture entries and then the group entries; the orders are those of the
-- prefecture entries. A hospital without an entry has no steps.
pub record PolicyData : Type 0 where
  pub kind : Kind
  pub ties : Ties
  pub listed : List ListedPair
  pub groups : GroupsData
  pub orders : List (Option (List ℕ))
  pub hospital_steps : List (Option (List ℤ))

-- the groups that are given by `cap` have steps of 0
abbrev pub CapsAreFlat : List Bool → List (List ℤ) → Type 0
CapsAreFlat by_cap steps = (g : ℕ) → get_or by_cap g false ≡ true → All (λ z. z ≡ pos 0) (get_or steps g [])

-- what holds of every policy: the names, the hospitals and the steps are as many, and not too many
pub record IsPolicy (p : PolicyData) : Type 0 where
  pub names_each : length p.groups.names ≡ length p.groups.members
  pub steps_each : length p.groups.steps ≡ length p.groups.members
  pub few_groups : length p.groups.members ≤ MOST_GROUPS
  pub few_orders : length p.orders ≤ length p.groups.members
  pub by_cap_each : length p.groups.by_cap ≡ length p.groups.members
  pub caps_flat : CapsAreFlat p.groups.by_cap p.groups.steps

-- a policy by its parts
abbrev pub policy_with : Kind → Ties → List ListedPair → PolicyGroups → List (Option (List ℕ)) → List (Option (List ℤ)) → PolicyData
policy_with kind ties listed all orders hospital_steps =
    record { kind = kind; ties = ties; listed = listed; groups = all.groups; orders = orders; hospital_steps = hospital_steps }

-- the names of the prefecture entries, which come first
abbrev pub entry_names : PolicyData → List Text
entry_names p = take (length p.orders) p.groups.names

-- the group of this name: it is looked for among the group entries, and where none has it among the prefecture entries
abbrev pub group_among : List Text → List Text → Text → Option ℕ
group_among entries others name = option_or (option_map (λ k. length entries + k) (place_of others name)) (place_of entries name)

abbrev pub group_named : PolicyData → Text → Option ℕ
group_named p name = group_among (entry_names p) (drop (length p.orders) p.groups.names) name

-- what is kept with a policy: the names of its prefecture entries
pub record IsPolicyKept (entries : List Text) (p : PolicyData) : Type 0 where
  pub policy : IsPolicy p
  pub entries_are : entries ≡ entry_names p

-- the policy of a folder that has none
abbrev pub plain : PolicyData
plain = record { kind = kinds.Steps; ties = tie.ByRank; listed = []; groups = no_groups; orders = []; hospital_steps = [] }

-- the pairs of a listed tie order, by number
abbrev pub pair_numbered : RosterData → Text × Text → ListedPair
pair_numbered r p = record { doctor = place_of r.doctors p.0; hospital = place_of r.hospitals p.1 }

abbrev pub listed_pairs : RosterData → List Data → List ListedPair
listed_pairs r ds = filter_map (λ d. option_map (pair_numbered r) (pair d)) ds

abbrev pub policy_of : RosterData → Data → PolicyData
policy_of r d =
    record {
      kind = kind_in d;
      ties = ties_in d;
      listed = listed_pairs r (elements_at pairs key.Listed d);
      groups = groups_joined (prefectures_of r (prefecture_entries d)).groups (groups_of r (group_entries d));
      orders = (prefectures_of r (prefecture_entries d)).orders;
      hospital_steps = hospital_steps_of r (hospital_entries d);
    }

-- the document of a text, or why there is none
abbrev pub ReadsDocument : Option Data → Result Value ReadFault → Type 0
ReadsDocument document (Ok value) = document ≡ Some (view value)
ReadsDocument document (Err (fault.Refused refusal)) = (document ≡ None) × (refusal ≡ policy_refusal NOT_TOML 0 0)
ReadsDocument document (Err fault.NoMemory) = Unit {0}

-- what reading entries answers
abbrev pub ReadsEntries : RosterData → Kind → List Data → List Data → List Data → Result Entries ReadFault → Type 0
ReadsEntries r kind prefectures groups hospitals (Ok e) =
    (first_of (entry_checks r kind prefectures groups hospitals) ≡ None)
    × (e.prefectures ≡ prefectures_of r prefectures)
    × (e.groups ≡ groups_of r groups)
    × (e.hospital_steps ≡ hospital_steps_of r hospitals)
ReadsEntries r kind prefectures groups hospitals (Err e) = Stops (first_of (entry_checks r kind prefectures groups hospitals)) e

-- the same of a top
abbrev pub ReadsTopEntries : RosterData → Top → Result Entries ReadFault → Type 0
ReadsTopEntries r top result = ReadsEntries r top.kind (map view top.prefectures.now) (map view top.groups.now) (map view top.hospitals.now) result

-- what reading a policy answers: what its document says, or the first refusal
abbrev pub ReadsPolicy : RosterData → Option Data → Result PolicyData ReadFault → Type 0
ReadsPolicy r document (Ok told) = (first_of (policy_checks r document) ≡ None) × (d : Data) × (document ≡ Some d) × (told ≡ policy_of r d)
ReadsPolicy r document (Err e) = Stops (first_of (policy_checks r document)) e
