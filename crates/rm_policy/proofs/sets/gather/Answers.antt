use Rattle.std.proofs.Common.{arith}
use Rattle.rm_policy.proofs.SetLemmas.{listed-more, listed-past, few-gathered, few-settled}
use Rattle.rm_policy.proofs.sets.gather.Goals as goal

pub loop-i-preserved-then-list-i : goal.loop-i-preserved-then-list-i
loop-i-preserved-then-list-i c = listed-past c.args.count c.args.numbers.now.items c.loop-i.numbers.items c.args.list.now c.loop-i.i c.loop-i-test.true c.loop-i.invariant c.if-list-i.true

pub loop-i-preserved : goal.loop-i-preserved
loop-i-preserved c =
    rw c.in_ok-push.ensures.items
    (listed-more c.args.count c.args.numbers.now.items c.loop-i.numbers.items c.args.list.now c.loop-i.i c.loop-i-test.true c.loop-i.invariant c.if-list-i.false)

pub returns-then-len-count-clause-room : goal.returns-then-len-count-clause-room
returns-then-len-count-clause-room c = few-settled c.args.count c.args.numbers.now.items c.loop-i.numbers.items c.settle.new.numbers.items _ c.requires c.loop-i.invariant c.settle.ensures.set c.settle.ensures.same

pub returns-else-len-count-clause-room : goal.returns-else-len-count-clause-room
returns-else-len-count-clause-room c = few-gathered c.args.count c.args.numbers.now.items c.loop-i.numbers.items _ c.requires c.loop-i.invariant (omega (arith, c.if-len-count.false, c.len.ensures, c.loop-i.numbers.ok.0))
