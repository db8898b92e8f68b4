use Rattle.std.proofs.Common.{◌≡◌, take, map}
use Rattle.toml.specs.View.{view}
use Rattle.rm_policy.specs.Policy.{listed_pairs}
use Rattle.rm_policy.proofs.listed.read_listed.Given as goal

abbrev pub invariant-loop-i : goal.invariant-loop-i
invariant-loop-i l = l.listed.items ≡ listed_pairs l.roster (map view (take l.i l.values))
