use Rattle.std.proofs.Common.{ℕ, ◌<◌, get_or}
use Rattle.rm_sets.specs.Sets.{IsIn}
use Rattle.rm_samples.proofs.is_within.Given as goal

abbrev pub invariant-loop-i : goal.invariant-loop-i
invariant-loop-i l = (k : ℕ) → k < l.i → IsIn (get_or l.xs k 0) l.ys
