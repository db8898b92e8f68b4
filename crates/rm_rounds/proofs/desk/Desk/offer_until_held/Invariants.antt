use Rattle.std.proofs.Common.{◌≡◌, ◌+◌, None, Some, ◌≢◌}
use Rattle.rm_market.specs.Machine.{next_offer}
use Rattle.rm_rounds.specs.Desk.{desk_state, Leads, left, one_if_some}
use Rattle.rm_rounds.proofs.desk.Desk.offer_until_held.Given as goal

abbrev pub invariant-loop-self : goal.invariant-loop-self
invariant-loop-self g l = record {
  reached : Leads (g.H.Holder.chosen l.initial.self.holder) l.initial.self.wishes (desk_state g.H.Holder.held l.initial.self) (desk_state g.H.Holder.held l.self);
  settled : Some l.d ≢ l.next → next_offer l.initial.self.wishes (desk_state g.H.Holder.held l.self) l.d ≡ None;
  wishes : l.self.wishes ≡ l.initial.self.wishes;
  chosen : g.H.Holder.chosen l.self.holder ≡ g.H.Holder.chosen l.initial.self.holder;
}

abbrev pub decreases-loop-self : goal.decreases-loop-self
decreases-loop-self g l = one_if_some l.next + left l.initial.self.wishes (desk_state g.H.Holder.held l.self)
