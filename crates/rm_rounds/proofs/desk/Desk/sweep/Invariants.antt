use Rattle.std.proofs.Common.{◌≡◌}
use Rattle.rm_rounds.specs.Desk.{desk_state, Leads}
use Rattle.rm_rounds.proofs.desk.Desk.sweep.Given as goal

abbrev pub invariant-loop-d : goal.invariant-loop-d
invariant-loop-d g l = record {
  reached : Leads (g.H.Holder.chosen l.initial.self.holder) l.initial.self.wishes (desk_state g.H.Holder.held l.initial.self) (desk_state g.H.Holder.held l.self);
  wishes : l.self.wishes ≡ l.initial.self.wishes;
  chosen : g.H.Holder.chosen l.self.holder ≡ g.H.Holder.chosen l.initial.self.holder;
}
