use Rattle.std.proofs.Common.{arith, rules}
use Rattle.rm_policy.proofs.ValueLemmas.{shapes_more, shapes_stop, shapes_end}
use Rattle.rm_policy.proofs.values.all_have.Goals as goal

pub returns-then-not-has_shape : goal.returns-then-not-has_shape
returns-then-not-has_shape c = shapes_stop c.args.shape c.args.values.now c.loop-i.i c.index-values-i.result c.loop-i-test.true c.index-values-i.is (search rules)

pub loop-i-preserved : goal.loop-i-preserved
loop-i-preserved c = shapes_more c.args.shape c.args.values.now c.loop-i.i c.index-values-i.result c.loop-i-test.true c.index-values-i.is c.loop-i.invariant (search rules)

pub returns : goal.returns
returns c = shapes_end c.args.shape c.args.values.now c.loop-i.i (omega arith) c.loop-i.invariant
