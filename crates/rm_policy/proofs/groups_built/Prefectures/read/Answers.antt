use Rattle.std.proofs.Common.{arith}
use Rattle.rm_base.proofs.Stopping.{stops-on}
use Rattle.rm_policy.proofs.GroupRows.{prefectures-none, prefectures-more, prefectures-stop, prefectures-all}
use Rattle.rm_policy.proofs.groups_built.Prefectures.read.Goals as goal

pub loop-i-init : goal.loop-i-init
loop-i-init c = prefectures-none c.args.roster.now c.args.kind c.args.values.now c.new-prefectures.result c.new-prefectures.ensures

pub returns-in-Err-clause-entries : goal.returns-in-Err-clause-entries
returns-in-Err-clause-entries c =
    stops-on _ _ c.in-Err.fault
    (λ refusal some. prefectures-stop c.args.roster.now c.args.kind c.args.values.now c.loop-i.i c.index-values-i.result c.loop-i.prefectures refusal c.loop-i.invariant c.loop-i-test.true c.index-values-i.is some)
    c.in-Err.ensures.entry

pub loop-i-preserved : goal.loop-i-preserved
loop-i-preserved c =
    prefectures-more c.args.roster.now c.args.kind c.args.values.now c.loop-i.i c.index-values-i.result c.loop-i.prefectures c.add.new.self c.loop-i.invariant c.loop-i-test.true c.index-values-i.is
    c.in-Ok.ensures.entry.0 c.in-Ok.ensures.entry.1 c.in-Ok.ensures.few

pub returns-clause-entries : goal.returns-clause-entries
returns-clause-entries c =
    let all = prefectures-all c.args.roster.now c.args.kind c.args.values.now c.loop-i.i c.loop-i.prefectures c.loop-i.invariant (omega arith) in
    (all.0, all.1)

pub returns-clause-few : goal.returns-clause-few
returns-clause-few c = (prefectures-all c.args.roster.now c.args.kind c.args.values.now c.loop-i.i c.loop-i.prefectures c.loop-i.invariant (omega arith)).2
