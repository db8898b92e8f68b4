use Rattle.std.proofs.Common.{◌+◌, sym, subst, arith}
use Rattle.rm_exchange.proofs.Opening.{nodes_of}
use Rattle.rm_exchange.proofs.Nexts.{AreNextsUpto, none_upto, more_upto, all_upto}
use Rattle.rm_exchange.proofs.fast.all_nexts.Goals as goal

pub loop-node-init : goal.loop-node-init
loop-node-init c = none_upto c.args.board.now c.args.counts.now c.in_ok-nexts.nexts.items c.in_ok-nexts.ensures.items

pub loop-node-preserved : goal.loop-node-preserved
loop-node-preserved c =
    subst (λ nexts. AreNextsUpto c.args.board.now c.args.counts.now nexts (c.loop-node.node + 1)) (sym c.in_ok-push.ensures.items)
    (more_upto c.args.board.now c.args.counts.now c.loop-node.nexts.items c.loop-node.node c.next_step.result c.next_step.ensures.step c.next_step.ensures.range c.loop-node.invariant)

pub returns : goal.returns
returns c =
    let past = c.loop-node-test.false in
    let end = c.loop-node.auto.node-end in
    let n = (nodes_of c.args.board.now c.tree.result.now c.nodes-node-end.result c.tree.ensures.hospitals c.tree.ensures.sets c.nodes-node-end.ensures).1 in
    all_upto c.args.board.now c.args.counts.now c.loop-node.nexts.items c.loop-node.node (omega arith) c.loop-node.invariant
