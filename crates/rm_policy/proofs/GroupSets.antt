-- Each group of a policy is a set of hospitals of the roster.
use Rattle.std.proofs.Common.{◌==◌, ℕ, List, [], ◌∷◌, length, map, fold, All}
use Rattle.std.specs.Prelude.{slice_index}
use Rattle.std.proofs.lemmas.List.Elements.{All-cons, All-append, All-push, All-nil}
use Rattle.toml.specs.Data.{Data}
use Rattle.rm_sets.specs.Sets.{IsSetBelow}
use Rattle.rm_sets.proofs.Sets.{IsSetBelow-all_below}
use Rattle.rm_roster.specs.Roster.{RosterData}
use Rattle.rm_policy.specs.Groups.{GroupsData, groups_of, is_member, members_of_group, no_groups, with_group}
use Rattle.rm_policy.specs.Policy.{policy_of}
use Rattle.rm_policy.specs.Prefectures.{members_of_prefecture, prefecture_of_entry}
use Rattle.rm_policy.specs.Top.{group_entries, prefecture_entries}

abbrev IsSetOf : RosterData → List ℕ → Type 0
IsSetOf r S = IsSetBelow (length r.hospitals) S

of-prefectures : (r : RosterData) (ds : List Data) → All (IsSetOf r) (map (members_of_prefecture r) ds)
of-prefectures r [] = All-nil (IsSetOf r)
of-prefectures r (d ∷ ds) =
    All-cons (IsSetOf r) (members_of_prefecture r d) (map (members_of_prefecture r) ds) (IsSetBelow-all_below (length r.hospitals) (λ h. slice_index r.prefecture_of h == prefecture_of_entry r d)) (of-prefectures r ds)

of-groups : (r : RosterData) (g : GroupsData) (ds : List Data) → All (IsSetOf r) g.members → All (IsSetOf r) (fold (with_group r) g ds).members
of-groups r g [] all = all
of-groups r g (d ∷ ds) all =
    of-groups r (with_group r g d) ds (All-push (IsSetOf r) g.members (members_of_group r g d) all (IsSetBelow-all_below (length r.hospitals) (is_member r g d)))

pub groups-are-sets : (r : RosterData) (d : Data) → All (λ S. IsSetBelow (length r.hospitals) S) (policy_of r d).groups.members
groups-are-sets r d =
    All-append (IsSetOf r) (map (members_of_prefecture r) (prefecture_entries d)) (groups_of r (group_entries d)).members (of-prefectures r (prefecture_entries d)) (of-groups r no_groups (group_entries d) (All-nil (IsSetOf r)))
