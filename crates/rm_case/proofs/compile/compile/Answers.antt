use Rattle.std.proofs.Common.{◌∙◌, ap, length}
use Rattle.rm_case.proofs.BoardLemmas.{board_made, group_sets}
use Rattle.rm_case.proofs.Markets.{market_made}
use Rattle.rm_case.proofs.Regions.{regions_are_compiled}
use Rattle.rm_case.proofs.compile.compile.Goals as goal

pub build-requires-clause-sets : goal.build-requires-clause-sets
build-requires-clause-sets c =
    group_sets (length c.args.roster.now.hospitals) c.len-hospitals.result c.groups.result.now c.args.policy.now.groups.members c.requires.groups c.groups.ensures.groups
    (c.len-hospitals.ensures.count ∙ ap length c.hospitals.ensures.hospitals)

pub returns-in-Ok-build-clause-board : goal.returns-in-Ok-build-clause-board
returns-in-Ok-build-clause-board c =
    let made = rw c.ranks.ensures.ranks at c.in-Ok-build.ensures in
    let tree = rw (c.groups.ensures.groups, c.len-hospitals.ensures.count, c.hospitals.ensures.hospitals) at c.in-Ok.ensures in
    board_made c.args.roster.now c.args.policy.now c.in-Ok.tree c.in-Ok-node_steps.steps.items c.tie_rule.result c.in-Ok-build.board c.hospitals.ensures.roster c.tie_rule.ensures tree.1 tree.0
    c.in-Ok-node_steps.ensures made.0 made.1

pub returns-in-Ok-build-clause-case : goal.returns-in-Ok-build-clause-case
returns-in-Ok-build-clause-case c =
    record {
      roster = c.hospitals.ensures.roster;
      policy = c.groups.ensures.policy;
      suits = c.requires;
      market = market_made c.args.roster.now c.args.policy.now c.hospitals.ensures.roster c.requires (returns-in-Ok-build-clause-board c).0;
      regions = regions_are_compiled c.args.roster.now c.args.policy.now c.hospitals.ensures.roster c.groups.ensures.policy c.requires;
    }
