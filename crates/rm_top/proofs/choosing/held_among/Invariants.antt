use Rattle.std.proofs.Common.{◌≡◌, filter, take}
use Rattle.rm_sets.specs.Sets.{has}
use Rattle.rm_top.proofs.choosing.held_among.Given as goal

abbrev pub invariant-loop-i : goal.invariant-loop-i
invariant-loop-i g l = l.held.items ≡ filter (λ x. has x (g.H.Holder.held l.holder)) (take l.i l.offered)
