use Rattle.std.proofs.Common.{◌≡◌, map}
use Rattle.rm_sets.specs.Sets.{below}
use Rattle.rm_case.specs.Compiled.{flexible_steps}
use Rattle.rm_case.proofs.node_steps.flexible_steps.Given as goal

abbrev pub invariant-loop-h : goal.invariant-loop-h
invariant-loop-h l = l.steps.items ≡ map (flexible_steps l.roster l.policy) (below l.h)
