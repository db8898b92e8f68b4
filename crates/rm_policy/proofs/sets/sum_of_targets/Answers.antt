use Rattle.std.proofs.Common.{arith}
use Rattle.rm_sets.proofs.Members.{IsIn-get_or}
use Rattle.rm_policy.proofs.sets.sum_of_targets.Goals as goal

pub target-requires : goal.target-requires
target-requires c = c.requires.within _ (IsIn-get_or c.args.hospitals.now c.loop-i.i 0 c.loop-i-test.true)

pub overflow_add-total : goal.overflow_add-total
overflow_add-total c = omega (arith, c.loop-i.invariant.1, c.loop-i-test.true, c.requires.few, c.target.type_inv)
