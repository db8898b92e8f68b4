use Rattle.std.proofs.Common.{◌≡◌, take}
use Rattle.rm_laminar.proofs.lists.Lists.packed.Given as goal

abbrev pub invariant-loop-i : goal.invariant-loop-i
invariant-loop-i l = l.packed ≡ take l.i l.self
