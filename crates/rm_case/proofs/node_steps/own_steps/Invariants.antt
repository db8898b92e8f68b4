use Rattle.std.proofs.Common.{◌≡◌, map}
use Rattle.rm_sets.specs.Sets.{below}
use Rattle.rm_case.specs.Compiled.{own_steps}
use Rattle.rm_case.proofs.node_steps.own_steps.Given as goal

abbrev pub invariant-loop-h : goal.invariant-loop-h
invariant-loop-h l = l.steps.items ≡ map (own_steps l.roster l.policy) (below l.h)
