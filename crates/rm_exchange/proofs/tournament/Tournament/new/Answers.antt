use Rattle.std.proofs.Common.{arith}
use Rattle.rm_exchange.proofs.Rounds.{empty_tournament, empty_rivals}
use Rattle.rm_exchange.proofs.tournament.Tournament.new.Goals as goal

pub invariant_of-result : goal.invariant_of-result
invariant_of-result c = empty_tournament c.args.width c.loop.counter c.loop.entries.items c.requires c.loop.invariant (let t = c.loop-test.false in let e = c.loop.auto.counter-end in omega arith)

pub returns : goal.returns
returns c = empty_rivals c.args.width c.loop.counter c.loop.entries.items c.loop.invariant (let t = c.loop-test.false in let e = c.loop.auto.counter-end in omega arith)
