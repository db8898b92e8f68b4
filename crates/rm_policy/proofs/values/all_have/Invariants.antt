use Rattle.std.proofs.Common.{◌≡◌, true, take}
use Rattle.std.specs.List.{list_all}
use Rattle.toml.specs.View.{view}
use Rattle.rm_policy.specs.Values.{has_shape}
use Rattle.rm_policy.proofs.values.all_have.Given as goal

abbrev pub invariant-loop-i : goal.invariant-loop-i
invariant-loop-i l = list_all (λ v. has_shape l.shape (view v)) (take l.i l.values) ≡ true
