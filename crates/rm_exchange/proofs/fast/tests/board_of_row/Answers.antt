use Rattle.std.proofs.Common.{arith}
use Rattle.rm_laminar.proofs.Trees.{tree-length}
use Rattle.rm_exchange.proofs.NestedGroups.{nested_board}
use Rattle.rm_exchange.proofs.fast.tests.board_of_row.Goals as goal

pub returns : goal.returns
returns c =
    let nodes = c.nodes.ensures in
    let all = tree-length c.in_ok-tree.tree.hospitals c.in_ok-tree.tree.groups in
    let steps = c.len.ensures in
    let long = c.in_ok-steps.steps.ok.0 in
    let same = c.if-len-nodes.false in
    let ranks = c.in_ok-ranks.ensures.all in
    let hospitals = c.in_ok-tree.ensures.hospitals in
    nested_board _ _ _ _ c.in-Ok.board c.in-Ok.ensures.1 c.in-Ok.ensures.2 c.len-hospitals.ensures.distinct c.in_ok-ranks.ensures.below (omega arith) c.in_ok-steps.ensures.steps c.in_ok-tree.ensures.sets c.in_ok-tree.ensures.fault
