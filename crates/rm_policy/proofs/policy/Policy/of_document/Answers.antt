use Rattle.std.proofs.Common.{ap, ◌∙◌, ◌+◌, ◌≤◌, length, map, Some}
use Rattle.std.proofs.lemmas.List.{length-map}
use Rattle.toml.specs.View.{view}
use Rattle.rm_base.specs.Checks.{first_of}
use Rattle.rm_base.proofs.Stopping.{stops-on}
use Rattle.rm_policy.specs.Groups.{GroupsData, PolicyGroups, PrefecturesData}
use Rattle.rm_policy.specs.Policy.{entry_checks, policy_checks}
use Rattle.rm_policy.specs.Top.{group_entries, hospital_entries, kind_in, prefecture_entries}
use Rattle.rm_policy.proofs.DocumentLemmas.{top-stops, entries-decide, entries-told, groups-groups_joined, orders-told, policy-is, policy-even}
use Rattle.rm_policy.proofs.policy.Policy.of_document.Goals as goal

pub returns-in-Err : goal.returns-in-Err
returns-in-Err c = top-stops c.args.roster.now (view c.args.document.now) c.in-Err.refusal c.in-Err.ensures

pub returns-in-Err-read_entries : goal.returns-in-Err-read_entries
returns-in-Err-read_entries c =
    let r = c.args.roster.now in
    let d = view c.args.document.now in
    let t = c.in-Ok.ensures in
    stops-on (first_of (entry_checks r (kind_in d) (prefecture_entries d) (group_entries d) (hospital_entries d))) (first_of (policy_checks r (Some d))) c.in-Err-read_entries.fault
    (λ refusal some. entries-decide r d t.0 ∙ some) (rw (t.1, t.4, t.5, t.6) at c.in-Err-read_entries.ensures.entries)

pub invariant_of-result : goal.invariant_of-result
invariant_of-result c =
    let r = c.args.roster.now in
    let top = c.in-Ok.top in
    let ps = map view top.prefectures.now in
    let gs = map view top.groups.now in
    let e = c.in-Ok-read_entries.ensures.entries in
    let few : length ps + length gs ≤ 5000 = rw (length-map top.prefectures.now view, length-map top.groups.now view) c.in-Ok-read_entries.ensures.few in
    let joined = groups-groups_joined r ps gs _ _ _ _ (ap (λ (g : PolicyGroups). g.groups) c.in-Ok-join.ensures) c.into_parts-parts.ensures.groups e.1 e.2 in
    let orders = orders-told r ps _ _ c.into_parts-parts.ensures.orders e.1 in
    record {
      policy = policy-even r ps gs _ joined orders few;
      entries_are =
          entries-told r ps gs _ _ _ joined (ap (λ (g : PolicyGroups). g.entries) c.in-Ok-join.ensures ∙ ap (λ (g : GroupsData). g.names) c.into_parts-parts.ensures.groups ∙ ap (λ (p : PrefecturesData). p.groups.names) e.1) orders;
    }

pub returns : goal.returns
returns c =
    let r = c.args.roster.now in
    let d = view c.args.document.now in
    let t = c.in-Ok.ensures in
    let e = rw (t.1, t.4, t.5, t.6) at c.in-Ok-read_entries.ensures.entries in (
      entries-decide r d t.0 ∙ e.0,
      policy-is r d _ _ _ _ _ _ t.1 t.2 (rw t.3 at c.in-Ok-read_listed.ensures) (groups-groups_joined r (prefecture_entries d) (group_entries d) _ _ _ _ (ap (λ (g : PolicyGroups). g.groups) c.in-Ok-join.ensures) c.into_parts-parts.ensures.groups e.1 e.2)
          (orders-told r (prefecture_entries d) _ _ c.into_parts-parts.ensures.orders e.1) e.3,
    )
