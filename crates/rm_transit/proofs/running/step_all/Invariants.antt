use Rattle.std.proofs.Common.{◌≡◌, drop}
use Rattle.rm_transit_laws.specs.Transit.{all_happen}
use Rattle.rm_transit.specs.Travel.{transit_state}
use Rattle.rm_transit.proofs.running.step_all.Given as goal

-- from here the other events lead where all of them lead from the start
abbrev pub invariant-loop-i : goal.invariant-loop-i
invariant-loop-i g l = record {
  ahead : all_happen (g.H.Holder.chosen l.initial.transit.holder) l.initial.transit.wishes (transit_state g.H.Holder.held l.transit) (drop l.i l.events)
      ≡ all_happen (g.H.Holder.chosen l.initial.transit.holder) l.initial.transit.wishes (transit_state g.H.Holder.held l.initial.transit) l.events;
  wishes : l.transit.wishes ≡ l.initial.transit.wishes;
  chosen : g.H.Holder.chosen l.transit.holder ≡ g.H.Holder.chosen l.initial.transit.holder;
}
