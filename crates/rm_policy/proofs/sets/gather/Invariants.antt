use Rattle.std.proofs.Common.{take}
use Rattle.rm_sets.specs.Sets.{has}
use Rattle.rm_policy.specs.Gathered.{Gathers}
use Rattle.rm_policy.proofs.sets.gather.Given as goal

abbrev pub invariant-loop-i : goal.invariant-loop-i
invariant-loop-i l = Gathers l.count l.fn.numbers.items l.numbers.items (λ n. has n (take l.i l.list))
