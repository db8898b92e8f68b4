use Rattle.std.proofs.Common.{◌≡◌, ℕ, ◌<◌, None}
use Rattle.rm_market.specs.Machine.{next_offer}
use Rattle.rm_rounds.specs.Desk.{desk_state, Leads}
use Rattle.rm_rounds.proofs.desk.Desk.close_all.Given as goal

abbrev pub invariant-loop : goal.invariant-loop
invariant-loop g l = record {
  reached : Leads (g.H.Holder.chosen l.fn.self.holder) l.fn.self.wishes (desk_state g.H.Holder.held l.fn.self) (desk_state g.H.Holder.held l.self);
  wishes : l.self.wishes ≡ l.fn.self.wishes;
  chosen : g.H.Holder.chosen l.self.holder ≡ g.H.Holder.chosen l.fn.self.holder;
}

abbrev pub invariant-loop-d : goal.invariant-loop-d
invariant-loop-d g l = record {
  reached : Leads (g.H.Holder.chosen l.fn.self.holder) l.fn.self.wishes (desk_state g.H.Holder.held l.fn.self) (desk_state g.H.Holder.held l.self);
  settled : (e : ℕ) → e < l.d → next_offer l.fn.self.wishes (desk_state g.H.Holder.held l.self) e ≡ None;
  wishes : l.self.wishes ≡ l.fn.self.wishes;
  chosen : g.H.Holder.chosen l.self.holder ≡ g.H.Holder.chosen l.fn.self.holder;
}
