use Rattle.rm_case.proofs.BoardLemmas.{group_pushed}
use Rattle.rm_case.proofs.node_steps.push_groups.Goals as goal

pub loop-g-preserved : goal.loop-g-preserved
loop-g-preserved c =
    group_pushed c.args.steps.now.items c.loop-g.steps.items c.push.new.self.items c.args.policy.now.groups.steps c.loop-g.g c.in_ok-own.own c.group_steps.result.now
    c.loop-g.invariant c.in_ok-push.ensures.items c.in_ok-own.ensures.same c.group_steps.ensures
