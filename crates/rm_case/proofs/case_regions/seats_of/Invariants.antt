use Rattle.std.proofs.Common.{◌≡◌, map, take}
use Rattle.rm_case.specs.Compiled.{seat_of}
use Rattle.rm_case.proofs.case_regions.seats_of.Given as goal

abbrev pub invariant-loop-i : goal.invariant-loop-i
invariant-loop-i l = l.seats.items ≡ map (seat_of l.roster) (take l.i l.order)
