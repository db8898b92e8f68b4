use Rattle.std.proofs.Common.{rules, sym, option_map}
use Rattle.rm_policy.specs.Policy.{pair_numbered}
use Rattle.rm_policy.specs.Values.{pair}
use Rattle.rm_policy.proofs.ValueLemmas.{gathered-none, gathered-one}
use Rattle.rm_policy.proofs.listed.read_listed.Goals as goal

pub loop-i-preserved-in_default : goal.loop-i-preserved-in_default
loop-i-preserved-in_default c =
    gathered-none (λ d. option_map (pair_numbered c.args.roster.now) (pair d)) c.args.values.now c.loop-i.i c.index-values-i.result c.loop-i.listed.items c.loop-i-test.true c.index-values-i.is c.loop-i.invariant (search rules)

pub loop-i-preserved : goal.loop-i-preserved
loop-i-preserved c =
    gathered-one (λ d. option_map (pair_numbered c.args.roster.now) (pair d)) c.args.values.now c.loop-i.i c.index-values-i.result c.loop-i.listed.items c.push.new.self.items c.in-Some.element c.loop-i-test.true c.index-values-i.is c.loop-i.invariant
    (sym c.in-Some.ensures) (search rules)
