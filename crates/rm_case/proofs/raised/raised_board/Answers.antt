use Rattle.std.proofs.Common.{◌∙◌, ap, length}
use Rattle.rm_case.proofs.BoardLemmas.{group_sets}
use Rattle.rm_case.proofs.RaisedLemmas.{raised_made}
use Rattle.rm_case.proofs.raised.raised_board.Goals as goal

pub build-requires-clause-sets : goal.build-requires-clause-sets
build-requires-clause-sets c =
    group_sets (length c.args.roster.now.hospitals) c.len.result c.groups.result.now c.args.policy.now.groups.members c.requires.suits.groups c.groups.ensures.groups
    (c.len.ensures.count ∙ ap length c.hospitals.ensures.hospitals)

pub returns-in-Ok-build : goal.returns-in-Ok-build
returns-in-Ok-build c =
    let made = rw c.ranks.ensures.ranks at c.in-Ok-build.ensures in
    let tree = rw (c.groups.ensures.groups, c.len.ensures.count, c.hospitals.ensures.hospitals) at c.in-Ok.ensures in
    raised_made c.args.roster.now c.args.policy.now c.in-Ok.tree c.in_ok-steps.steps.items c.tie_rule.result c.in-Ok-build.board c.args.g c.args.cap c.hospitals.ensures.roster c.groups.ensures.policy
    c.tie_rule.ensures c.requires.group tree.1 c.in_ok-steps.ensures made.1
