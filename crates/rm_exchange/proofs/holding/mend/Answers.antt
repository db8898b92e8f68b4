use Rattle.std.proofs.Common.{◌≡◌, ◌-◌, get_or, refl, subst, arith, FitsSigned, w64, pos}
use Rattle.std.proofs.lemmas.Int.{ints, to_z-of_z}
use Rattle.rm_market.specs.Board.{node_at}
use Rattle.rm_exchange.specs.Holding.{held_in}
use Rattle.rm_exchange.proofs.Chain.{mending_start, mending_none, mending_step, mending_end, node_of, chain_home, small_best}
use Rattle.rm_exchange.proofs.holding.mend.Goals as goal

pub returns-then-chain-lt2-clause-kept : goal.returns-then-chain-lt2-clause-kept
returns-then-chain-lt2-clause-kept c = mending_none c.args.board.now c.args.places.now c.args.holding.now c.args.x c.chain_of-chain.result.now c.chain_of-chain.ensures c.if-chain-lt2.true c.requires.kept

pub loop-i-init : goal.loop-i-init
loop-i-init c =
    mending_start c.args.board.now c.args.places.now c.args.holding.now c.args.x c.chain_of-chain.result.now c.index.result.now c.last_removal-best.result c.requires.kept c.requires.contract c.chain_of-chain.ensures
    (subst (λ h. c.index.result.now ≡ get_or c.args.holding.now.leaves.items h c.index.result.now) c.leaf.ensures.leaf c.index.ensures) c.last_removal-best.ensures

pub last_step-requires-clause-node : goal.last_step-requires-clause-node
last_step-requires-clause-node c =
    let some = c.loop-i.auto.i in
    let lt = c.loop-i-test.true in
    node_of c.args.board.now c.requires.kept.hospitals c.args.x c.chain_of-chain.result.now (c.loop-i.i - 1) c.chain_of-chain.ensures (omega arith)

pub further-entry-requires-clause-small : goal.further-entry-requires-clause-small
further-entry-requires-clause-small c =
    small_best c.args.board.now (held_in c.args.board.now c.loop-i.holding) (get_or c.chain_of-chain.result.now (c.loop-i.i - 1) 0) c.loop-i.best c.requires.kept.small c.loop-i.invariant.best_is

pub bounds-places-inner : goal.bounds-places-inner
bounds-places-inner c =
    let some = c.loop-i.auto.i in
    let lt = c.loop-i-test.true in
    let node = node_of c.args.board.now c.requires.kept.hospitals c.args.x c.chain_of-chain.result.now (c.loop-i.i - 1) c.chain_of-chain.ensures (omega arith) in
    let all = c.requires.kept.all_placed in
    omega arith

pub change-best-requires-clause-node : goal.change-best-requires-clause-node
change-best-requires-clause-node c =
    let lt = node_of c.args.board.now c.requires.kept.hospitals c.args.x c.chain_of-chain.result.now c.loop-i.i c.chain_of-chain.ensures c.loop-i-test.true in
    let all = c.loop-i.invariant.kept.all_nodes in
    omega arith

pub change-best-requires-clause-place : goal.change-best-requires-clause-place
change-best-requires-clause-place c =
    let some = c.loop-i.auto.i in
    let lt = c.loop-i-test.true in
    let nodes = c.chain_of-chain.result.now in
    c.loop-i.invariant.kept.placed.within (get_or nodes (c.loop-i.i - 1) 0) (get_or nodes c.loop-i.i 0)
    (node_of c.args.board.now c.requires.kept.hospitals c.args.x nodes (c.loop-i.i - 1) c.chain_of-chain.ensures (omega arith))
    (chain_home c.args.board.now c.requires.kept.hospitals c.args.x nodes c.loop-i.i c.chain_of-chain.ensures some lt)

pub loop-i-preserved : goal.loop-i-preserved
loop-i-preserved c =
    let low = c.last_step.ensures.low in
    let high = c.last_step.ensures.high in
    let step : FitsSigned w64 c.last_step.result = omega (arith, ints, low, high) in
    let further = simp to_z-of_z at c.further-entry.ensures in
    let inner = get_or c.chain_of-chain.result.now (c.loop-i.i - 1) 0 in
    mending_step c.args.board.now c.args.places.now c.args.holding.now c.loop-i.holding c.args.x c.chain_of-chain.result.now c.loop-i.i c.loop-i.best c.further-entry.result
    (record { counts = c.loop-i.holding.counts; nexts = c.loop-i.holding.nexts; marks = c.loop-i.holding.marks; leaves = c.loop-i.holding.leaves; rivals = c.change-best.new.rivals }) c.change-best.result c.last_step.result c.requires.contract c.chain_of-chain.ensures c.loop-i-test.true c.loop-i.invariant refl refl refl refl
    c.change-best.ensures.rivals c.change-best.ensures.best (subst (λ counts. c.last_step.result ≡ get_or (node_at c.args.board.now inner).steps (get_or counts inner 0 - 1) (pos 0)) c.deref.ensures.value c.last_step.ensures.step)
    (low, high) further

pub returns-clause-kept : goal.returns-clause-kept
returns-clause-kept c = mending_end c.args.board.now c.args.places.now c.args.holding.now c.loop-i.holding c.args.x c.chain_of-chain.result.now c.loop-i.i c.loop-i.best c.chain_of-chain.ensures c.loop-i-test.false c.loop-i.invariant
