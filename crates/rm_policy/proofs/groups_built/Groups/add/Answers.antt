use Rattle.std.proofs.Common.{◌≡◌, ◌∙◌, ℕ, List, map, ap}
use Rattle.toml.specs.View.{view}
use Rattle.rm_policy.specs.Entries.{numbers_of}
use Rattle.rm_policy.specs.Groups.{GroupsData, groups_named}
use Rattle.rm_policy.proofs.GroupRows.{group-added, group-fault, group-passes}
use Rattle.rm_policy.proofs.groups_built.Groups.add.Goals as goal

pub returns-in-Err-clause-entry : goal.returns-in-Err-clause-entry
returns-in-Err-clause-entry c =
    let same : c.self.inside.names ≡ c.args.self.now.names = ap (λ (g : GroupsData). g.names) c.self.view_is in
    group-fault c.args.roster.now c.args.first c.self.inside.names c.args.self.now.names (view c.args.value.now) c.in-Err.fault same c.in-Err.ensures.entry

pub returns-clause-entry : goal.returns-clause-entry
returns-clause-entry c =
    let d = view c.args.value.now in
    let same : c.self.inside.names ≡ c.args.self.now.names = ap (λ (g : GroupsData). g.names) c.self.view_is in
    let e = c.in-Ok.ensures.entry in (
      group-passes c.args.roster.now c.args.first c.self.inside.names c.args.self.now.names d same e.0,
      group-added c.args.roster.now c.args.self.now d c.push.new.self c.in-Ok.entry.name.now c.in-Ok-union.members.items c.in-Ok.entry.steps c.in-Ok.entry.by_cap c.deref.result.now c.deref-2.result.now c.deref-4.result.now
          (map (λ s. s.items) c.deref-3.result.now) c.in-Ok-push.ensures e.1 e.5 e.6 c.in-Ok-union.ensures (c.deref.ensures.value ∙ e.2) (c.deref-2.ensures.value ∙ e.3)
          (ap (map (λ s. s.items)) c.deref-3.ensures.value ∙ ap (λ (g : GroupsData). g.members) c.self.view_is) (c.deref-4.ensures.value ∙ e.4 ∙ ap (λ (names : List (List ℕ)). numbers_of names (groups_named d)) same),
    )
