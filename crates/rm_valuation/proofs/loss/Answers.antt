use Rattle.std.proofs.Common.{◌+ℤ◌, FitsSigned, w64, arith}
use mir.Val.{to_z}
use Rattle.std.proofs.lemmas.Int.{ints, to_z-of_z}
use Rattle.rm_sets.proofs.Members.{IsIn-get_or}
use Rattle.rm_valuation.proofs.Sums.{one_summed}
use Rattle.rm_valuation.proofs.Counted.{last_at, loss_is}
use Rattle.rm_valuation.proofs.loss.Goals as goal

pub last_step-sum-requires-clause-node : goal.last_step-sum-requires-clause-node
last_step-sum-requires-clause-node c = c.chain-chain.ensures.chain.nodes _ (IsIn-get_or c.chain-chain.result.now c.loop-i.i 0 c.loop-i-test.true)

pub loop-i-preserved : goal.loop-i-preserved
loop-i-preserved c =
    let low = c.last_step-sum.ensures.low in
    let high = c.last_step-sum.ensures.high in
    let step : FitsSigned w64 c.last_step-sum.result = omega (arith, ints, low, high) in
    let few = c.chain-chain.ensures.few in
    let sum : FitsSigned w64 (to_z w64 c.loop-i.sum-bits +ℤ c.last_step-sum.result) = omega (arith, ints, low, high, few, c.loop-i.invariant.low, c.loop-i.invariant.high, c.loop-i-test.true) in
    simp to_z-of_z (one_summed (last_at c.args.board.now c.args.counts.now c.chain-chain.result.now) c.loop-i.i (to_z w64 c.loop-i.sum-bits) c.last_step-sum.result c.loop-i.invariant c.last_step-sum.ensures.step (low, high))

pub returns-clause-change : goal.returns-clause-change
returns-clause-change c = λ S s i f a.
    let past = c.loop-i-test.false in
    let end = c.loop-i.auto.i-end in
    loss_is c.args.board.now c.args.z S c.args.counts.now c.chain-chain.result.now c.loop-i.i (to_z w64 c.loop-i.sum-bits) s i f a c.chain-chain.ensures.chain c.loop-i.invariant (omega arith)

pub returns-clause-low : goal.returns-clause-low
returns-clause-low c =
    let few = c.chain-chain.ensures.few in
    let end = c.loop-i.auto.i-end in
    let low = c.loop-i.invariant.low in
    omega (arith, ints)

pub returns-clause-high : goal.returns-clause-high
returns-clause-high c =
    let few = c.chain-chain.ensures.few in
    let end = c.loop-i.auto.i-end in
    let high = c.loop-i.invariant.high in
    omega (arith, ints)
