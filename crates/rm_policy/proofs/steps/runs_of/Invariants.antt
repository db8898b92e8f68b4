use Rattle.std.proofs.Common.{◌≡◌, take, map}
use Rattle.toml.specs.View.{view}
use Rattle.rm_policy.specs.Steps.{runs_of}
use Rattle.rm_policy.proofs.steps.runs_of.Given as goal

abbrev pub invariant-loop-i : goal.invariant-loop-i
invariant-loop-i l = l.runs.items ≡ runs_of (map view (take l.i l.values))
