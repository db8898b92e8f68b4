use Rattle.std.proofs.Common.{◌≡◌, ◌++◌, take}
use Rattle.rm_case.proofs.node_steps.push_groups.Given as goal

abbrev pub invariant-loop-g : goal.invariant-loop-g
invariant-loop-g l = l.steps.items ≡ l.fn.steps.items ++ take l.g l.policy.groups.steps
