use Rattle.rm_sets.proofs.Members.{IsIn-get_or}
use Rattle.rm_greedy.proofs.marks.write_marked.Goals as goal

pub bounds-marks-x : goal.bounds-marks-x
bounds-marks-x c = c.requires.marks.below _ (IsIn-get_or c.args.contracts.now c.loop-i.i 0 c.loop-i-test.true)
