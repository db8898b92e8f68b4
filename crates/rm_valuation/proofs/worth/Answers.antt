use Rattle.std.proofs.Common.{◌+ℤ◌, length, ap, FitsSigned, arith}
use Rattle.std.specs.Int.{w128}
use mir.Val.{to_z}
use Rattle.std.proofs.lemmas.Int.{ints, to_z-of_z}
use Rattle.std.proofs.lemmas.List.{length-map}
use Rattle.rm_valuation.proofs.Sums.{one_total}
use Rattle.rm_valuation.proofs.Counted.{total_at, worth_is}
use Rattle.rm_valuation.proofs.worth.Goals as goal

pub loop-node-preserved : goal.loop-node-preserved
loop-node-preserved c =
    let low = c.total_at-sum.ensures.low in
    let high = c.total_at-sum.ensures.high in
    let part : FitsSigned w128 c.total_at-sum.result = omega (arith, ints, low, high) in
    let small = c.nodes-node-end.type_inv in
    let sum : FitsSigned w128 (to_z w128 c.loop-node.sum-bits +ℤ c.total_at-sum.result) = omega (arith, ints, low, high, small, c.loop-node.invariant.low, c.loop-node.invariant.high, c.loop-node-test.true) in
    simp to_z-of_z (one_total (total_at c.args.board.now c.args.counts.now) c.loop-node.node (to_z w128 c.loop-node.sum-bits) c.total_at-sum.result c.loop-node.invariant c.total_at-sum.ensures.total low high)

pub returns : goal.returns
returns c = λ S a.
    let e = c.nodes-node-end.ensures in
    let f = ap length c.tree.ensures.sets in
    let g = length-map c.args.board.now.nodes (λ n. n.leaves) in
    let past = c.loop-node-test.false in
    let end = c.loop-node.auto.node-end in
    worth_is c.args.board.now S c.args.counts.now c.loop-node.node (to_z w128 c.loop-node.sum-bits) a c.loop-node.invariant (omega arith)
