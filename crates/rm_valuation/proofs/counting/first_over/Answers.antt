use Rattle.std.proofs.Common.{◌≡◌, ◌<◌, ◌≤◌, length, get_or, sym, ap, subst, arith, ◌∙◌}
use Rattle.rm_market.specs.Board.{cap_of, node_at}
use Rattle.rm_market.specs.Tree.{sets_of_tree}
use Rattle.rm_valuation.proofs.Counted.{count_of}
use Rattle.rm_valuation.proofs.Overfull.{node_count, node_over, no_node_over}
use Rattle.rm_valuation.proofs.counting.first_over.Goals as goal

pub returns-then-counts-node : goal.returns-then-counts-node
returns-then-counts-node c = λ S a.
    let b = c.args.board.now in
    let k = c.loop-node.node in
    let nodes : length (sets_of_tree c.tree.result.now) ≡ length b.nodes = ap length c.tree.ensures.sets ∙ node_count b in
    let lt : k < length b.nodes = let test = c.loop-node-test.true in let e = c.nodes-node-end.ensures in omega (arith, test, e, nodes) in
    let over = c.if-counts-node.true in
    let cap = c.cap.ensures.cap in
    let steps = c.steps.ensures in
    sym (node_over b S k lt
    (subst (λ m. cap_of (node_at b k) < m) (count_of b S c.args.counts.now a k lt) (subst (λ m. m < get_or c.args.counts.now k 0) (cap ∙ ap length steps) over))
    (λ j less. subst (λ m. m ≤ cap_of (node_at b j)) (count_of b S c.args.counts.now a j (omega (arith, less, lt))) (c.loop-node.invariant j less)))

pub returns : goal.returns
returns c = λ S a.
    let b = c.args.board.now in
    let nodes : length (sets_of_tree c.tree.result.now) ≡ length b.nodes = ap length c.tree.ensures.sets ∙ node_count b in
    let past = c.loop-node-test.false in
    let e = c.nodes-node-end.ensures in
    sym (no_node_over b S
    (λ j lt. subst (λ m. m ≤ cap_of (node_at b j)) (count_of b S c.args.counts.now a j lt) (c.loop-node.invariant j (omega (arith, lt, past, e, nodes)))))
