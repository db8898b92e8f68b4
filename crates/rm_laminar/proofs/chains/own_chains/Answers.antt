use Rattle.std.proofs.Common.{arith}
use Rattle.rm_laminar.proofs.Loops.{none-own, one-own}
use Rattle.rm_laminar.proofs.chains.own_chains.Goals as goal

pub loop-h-init : goal.loop-h-init
loop-h-init c = none-own c.args.hospitals c.in_ok-chains.chains c.in_ok-chains.ensures

pub push-requires : goal.push-requires
push-requires c = omega (arith, c.loop-h.invariant.lengths, c.loop-h-test.true)

pub loop-h-preserved : goal.loop-h-preserved
loop-h-preserved c = one-own c.args.hospitals c.loop-h.h c.loop-h.chains c.push.new.self c.loop-h.invariant c.loop-h-test.true c.in_ok-push.ensures

pub returns-clause-len : goal.returns-clause-len
returns-clause-len c = c.loop-h.invariant.lengths

pub returns-clause-own : goal.returns-clause-own
returns-clause-own c = λ h lt. c.loop-h.invariant.own h (omega arith)
