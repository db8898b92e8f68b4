use Rattle.std.proofs.Common.{arith}
use Rattle.rm_base.proofs.Stopping.{stops-on}
use Rattle.rm_policy.proofs.GroupRows.{groups-none, groups-more, groups-stop, groups-all}
use Rattle.rm_policy.proofs.groups_built.Groups.read.Goals as goal

pub loop-i-init : goal.loop-i-init
loop-i-init c = groups-none c.args.roster.now c.args.first c.args.values.now c.new-groups.result c.requires c.new-groups.ensures

pub returns-in-Err-clause-entries : goal.returns-in-Err-clause-entries
returns-in-Err-clause-entries c =
    stops-on _ _ c.in-Err.fault
    (λ refusal some. groups-stop c.args.roster.now c.args.first c.args.values.now c.loop-i.i c.index-values-i.result c.loop-i.groups refusal c.loop-i.invariant c.loop-i-test.true c.index-values-i.is some)
    c.in-Err.ensures.entry

pub loop-i-preserved : goal.loop-i-preserved
loop-i-preserved c =
    groups-more c.args.roster.now c.args.first c.args.values.now c.loop-i.i c.index-values-i.result c.loop-i.groups c.add.new.self c.loop-i.invariant c.loop-i-test.true c.index-values-i.is
    c.in-Ok.ensures.entry.0 c.in-Ok.ensures.entry.1 c.in-Ok.ensures.few

pub returns-clause-entries : goal.returns-clause-entries
returns-clause-entries c =
    let all = groups-all c.args.roster.now c.args.first c.args.values.now c.loop-i.i c.loop-i.groups c.loop-i.invariant (omega arith) in
    (all.0, all.1)

pub returns-clause-few : goal.returns-clause-few
returns-clause-few c = (groups-all c.args.roster.now c.args.first c.args.values.now c.loop-i.i c.loop-i.groups c.loop-i.invariant (omega arith)).2
