use Rattle.std.proofs.Common.{arith}
use Rattle.rm_sets.proofs.Members.{IsIn-get_or}
use Rattle.rm_greedy.proofs.Marked.{cleared}
use Rattle.rm_greedy.proofs.marks.clear.Goals as goal

pub bounds-marks-contracts : goal.bounds-marks-contracts
bounds-marks-contracts c =
    let lt = c.requires.below _ (IsIn-get_or c.args.contracts.now c.loop-i.i 0 c.loop-i-test.true) in
    let same = c.loop-i.invariant.0 in
    omega (arith, lt, same)

pub returns-clause-none : goal.returns-clause-none
returns-clause-none c =
    let past = c.loop-i-test.false in
    cleared c.args.contracts.now c.loop-i.marks c.loop-i.i c.loop-i.invariant.1 (omega (arith, past))
