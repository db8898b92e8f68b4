use Rattle.std.proofs.Common.{◌≡◌, ◌≤◌}
use Rattle.rm_transit.specs.Running.{marks_of}
use Rattle.rm_transit.specs.Travel.{transit_state}
use Rattle.rm_transit.proofs.running.all_marks.Given as goal

abbrev pub invariant-loop-d : goal.invariant-loop-d
invariant-loop-d g l = (l.d ≤ l.doctors) × (l.marks.items ≡ marks_of l.transit.wishes (transit_state g.H.Holder.held l.transit) l.d)
