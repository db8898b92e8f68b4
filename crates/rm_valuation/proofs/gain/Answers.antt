use Rattle.std.proofs.Common.{◌+ℤ◌, FitsSigned, w64, sym, arith}
use mir.Val.{to_z}
use Rattle.std.proofs.lemmas.Int.{ints, to_z-of_z}
use Rattle.rm_sets.proofs.Members.{IsIn-get_or}
use Rattle.rm_valuation.proofs.Counted.{one_gained, no_gain, gain_is}
use Rattle.rm_valuation.proofs.gain.Goals as goal

pub next_step-requires-clause-node : goal.next_step-requires-clause-node
next_step-requires-clause-node c = c.chain-chain.ensures.chain.nodes _ (IsIn-get_or c.chain-chain.result.now c.loop-i.i 0 c.loop-i-test.true)

pub returns-in_default-clause-change : goal.returns-in_default-clause-change
returns-in_default-clause-change c = λ S out f a.
    no_gain c.args.board.now c.args.x S c.args.counts.now c.chain-chain.result.now c.loop-i.i out a c.chain-chain.ensures.chain c.loop-i-test.true (sym c.in_default.ensures.step)

pub loop-i-preserved : goal.loop-i-preserved
loop-i-preserved c =
    let range = c.in-Some.ensures.range in
    let step : FitsSigned w64 c.in-Some.step = omega (arith, ints, range.0, range.1) in
    let few = c.chain-chain.ensures.few in
    let sum : FitsSigned w64 (to_z w64 c.loop-i.sum-bits +ℤ c.in-Some.step) = omega (arith, ints, range.0, range.1, few, c.loop-i.invariant.summed.low, c.loop-i.invariant.summed.high, c.loop-i-test.true) in
    simp to_z-of_z (one_gained c.args.board.now c.args.counts.now c.chain-chain.result.now c.loop-i.i (to_z w64 c.loop-i.sum-bits) c.in-Some.step c.loop-i.invariant range (sym c.in-Some.ensures.step))

pub returns-clause-change : goal.returns-clause-change
returns-clause-change c = λ S out f a.
    let past = c.loop-i-test.false in
    let end = c.loop-i.auto.i-end in
    gain_is c.args.board.now c.args.x S c.args.counts.now c.chain-chain.result.now c.loop-i.i (to_z w64 c.loop-i.sum-bits) out f a c.chain-chain.ensures.chain c.loop-i.invariant (omega arith)

pub returns-clause-range : goal.returns-clause-range
returns-clause-range c =
    let few = c.chain-chain.ensures.few in
    let past = c.loop-i.auto.i-end in
    let low = c.loop-i.invariant.summed.low in
    let high = c.loop-i.invariant.summed.high in
    (omega (arith, ints), omega (arith, ints))
