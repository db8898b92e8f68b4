use Rattle.std.proofs.Common.{rules, sym}
use Rattle.rm_policy.specs.Values.{run_written}
use Rattle.rm_policy.proofs.ValueLemmas.{gathered-none, gathered-one}
use Rattle.rm_policy.proofs.steps.runs_of.Goals as goal

pub loop-i-preserved-in_default : goal.loop-i-preserved-in_default
loop-i-preserved-in_default c = gathered-none run_written c.args.values.now c.loop-i.i c.index-values-i.result c.loop-i.runs.items c.loop-i-test.true c.index-values-i.is c.loop-i.invariant (search rules)

pub loop-i-preserved : goal.loop-i-preserved
loop-i-preserved c = gathered-one run_written c.args.values.now c.loop-i.i c.index-values-i.result c.loop-i.runs.items c.push.new.self.items c.in-Some.found c.loop-i-test.true c.index-values-i.is c.loop-i.invariant (sym c.in-Some.ensures) (search rules)
