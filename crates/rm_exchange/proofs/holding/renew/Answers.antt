use Rattle.std.proofs.Common.{arith}
use Rattle.rm_exchange.proofs.Chain.{is_chain, node_of}
use Rattle.rm_exchange.proofs.Nexts.{renewing_start, renewing_step, renewing_end}
use Rattle.rm_exchange.proofs.holding.renew.Goals as goal

pub loop-i-init : goal.loop-i-init
loop-i-init c =
    renewing_start c.args.board.now c.args.counts.now c.args.nexts.now.items c.args.x c.chain_of-chain.result.now
    (is_chain c.args.board.now c.requires.hospitals c.args.x c.chain_of-chain.result.now c.chain_of-chain.ensures) c.requires.nexts

pub next_step-requires-clause-node : goal.next_step-requires-clause-node
next_step-requires-clause-node c = node_of c.args.board.now c.requires.hospitals c.args.x c.chain_of-chain.result.now c.loop-i.i c.chain_of-chain.ensures c.loop-i-test.true

pub index_mut-requires : goal.index_mut-requires
index_mut-requires c =
    let lt = node_of c.args.board.now c.requires.hospitals c.args.x c.chain_of-chain.result.now c.loop-i.i c.chain_of-chain.ensures c.loop-i-test.true in
    let all = c.loop-i.invariant.all in
    let long = c.loop-i.nexts.ok.0 in
    omega arith

pub loop-i-preserved : goal.loop-i-preserved
loop-i-preserved c =
    let lt = node_of c.args.board.now c.requires.hospitals c.args.x c.chain_of-chain.result.now c.loop-i.i c.chain_of-chain.ensures c.loop-i-test.true in
    renewing_step c.args.board.now c.args.counts.now c.loop-i.nexts.items c.chain_of-chain.result.now c.loop-i.i c.next_step.result c.loop-i-test.true lt c.next_step.ensures.step c.next_step.ensures.range c.loop-i.invariant

pub returns : goal.returns
returns c = renewing_end c.args.board.now c.args.counts.now c.loop-i.nexts.items c.chain_of-chain.result.now c.loop-i.i (let past = c.loop-i-test.false in let end = c.loop-i.auto.i-end in omega arith) c.loop-i.invariant
