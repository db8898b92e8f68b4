use Rattle.std.proofs.Common.{length, ap, arith}
use Rattle.std.proofs.lemmas.List.{length-map}
use Rattle.rm_flexible.proofs.Together.{hospitals_few}
use Rattle.rm_flexible.proofs.choosing.count_nodes.Goals as goal

pub returns-clause-hospitals : goal.returns-clause-hospitals
returns-clause-hospitals c =
    let few = hospitals_few c.args.board.now c.tree.result.now c.tree.ensures.hospitals c.tree.ensures.sets in
    let all = ap length c.tree.ensures.sets in
    let nodes = length-map c.args.board.now.nodes (λ n. n.leaves) in
    let e = c.nodes.ensures in
    omega (arith, few, all, nodes, e)
