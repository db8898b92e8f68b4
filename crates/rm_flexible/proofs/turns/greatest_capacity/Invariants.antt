use Rattle.std.proofs.Common.{◌≡◌, take, map, max}
use Rattle.std.specs.Prelude.{fold}
use Rattle.rm_flexible.proofs.turns.greatest_capacity.Given as goal

abbrev pub invariant-loop-i : goal.invariant-loop-i
invariant-loop-i l = l.greatest ≡ fold max 0 (map (λ s. s.capacity) (take l.i l.seats))
