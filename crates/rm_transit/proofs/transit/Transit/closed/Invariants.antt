use Rattle.std.proofs.Common.{◌≡◌, ◌<◌, ℕ, true}
use Rattle.rm_transit_laws.specs.Transit.{mark_of}
use Rattle.rm_transit.specs.Travel.{transit_state, settled_mark}
use Rattle.rm_transit.proofs.transit.Transit.closed.Given as goal

abbrev pub invariant-loop-d : goal.invariant-loop-d
invariant-loop-d g l = (e : ℕ) → e < l.d → settled_mark (mark_of l.self.wishes (transit_state g.H.Holder.held l.self) e) ≡ true
