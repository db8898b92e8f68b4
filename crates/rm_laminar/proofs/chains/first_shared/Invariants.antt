use Rattle.std.proofs.Common.{◌≡◌, ◌<◌, ℕ, get_or, false}
use Rattle.rm_sets.specs.Sets.{has}
use Rattle.rm_laminar.proofs.chains.first_shared.Given as goal

abbrev pub invariant-loop-i : goal.invariant-loop-i
invariant-loop-i l = (k : ℕ) → k < l.i → has (get_or l.a k 0) l.b ≡ false
