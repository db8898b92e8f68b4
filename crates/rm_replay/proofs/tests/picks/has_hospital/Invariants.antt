use Rattle.std.proofs.Common.{◌≡◌, ◌==◌, false, take}
use Rattle.std.specs.List.{list_any}
use Rattle.rm_replay.proofs.tests.picks.has_hospital.Given as goal

abbrev pub invariant-loop-i : goal.invariant-loop-i
invariant-loop-i l = list_any (λ s. s.hospital == l.h) (take l.i l.seats) ≡ false
