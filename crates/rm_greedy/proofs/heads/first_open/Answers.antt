use Rattle.std.proofs.Common.{arith}
use Rattle.rm_sets.proofs.Members.{IsIn-get_or}
use Rattle.rm_greedy.proofs.heads.first_open.Goals as goal

pub bounds-marks-offered : goal.bounds-marks-offered
bounds-marks-offered c =
    let lt = c.requires.offered.below _ (IsIn-get_or c.args.offered.now c.loop-place.place 0 c.loop-place.invariant.within) in
    let space = c.requires.marks in
    omega (arith, lt, space)
