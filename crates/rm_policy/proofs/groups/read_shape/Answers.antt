use Rattle.std.proofs.Common.{◌∙◌}
use Rattle.toml.specs.View.{view}
use Rattle.rm_policy.specs.Groups.{group_array_checks, group_head_checks, group_limit_checks}
use Rattle.rm_policy.proofs.EntryLemmas.{three-first, three-second, three-third}
use Rattle.rm_policy.proofs.groups.read_shape.Goals as goal

pub returns-in-Err-clause-shape : goal.returns-in-Err-clause-shape
returns-in-Err-clause-shape c =
    let d = view c.args.value.now in
    let i = c.args.item in
    three-first (group_head_checks i d) (group_limit_checks i d) (group_array_checks i d) c.in-Err.refusal c.in-Err.ensures.name

pub returns-in-Err-limit_at-clause-shape : goal.returns-in-Err-limit_at-clause-shape
returns-in-Err-limit_at-clause-shape c =
    let d = view c.args.value.now in
    let i = c.args.item in
    three-second (group_head_checks i d) (group_limit_checks i d) (group_array_checks i d) c.in-Err-limit_at.refusal c.in-Ok.ensures.name.0 c.in-Err-limit_at.ensures

pub returns-in-Err-read_arrays-clause-shape : goal.returns-in-Err-read_arrays-clause-shape
returns-in-Err-read_arrays-clause-shape c =
    let d = view c.args.value.now in
    let i = c.args.item in
    three-third (group_head_checks i d) (group_limit_checks i d) (group_array_checks i d) c.in-Ok.ensures.name.0 c.in-Ok-limit_at.ensures.0 ∙ c.in-Err-read_arrays.ensures

pub returns-clause-shape : goal.returns-clause-shape
returns-clause-shape c =
    let d = view c.args.value.now in
    let i = c.args.item in
    let l = c.in-Ok-limit_at.ensures in
    let a = c.in-Ok-read_arrays.ensures in (
      three-third (group_head_checks i d) (group_limit_checks i d) (group_array_checks i d) c.in-Ok.ensures.name.0 l.0 ∙ a.0,
      c.in-Ok.ensures.name.1,
      l.1,
      l.2,
      l.3,
      a.1,
      a.2,
      a.3,
      l.4,
    )
