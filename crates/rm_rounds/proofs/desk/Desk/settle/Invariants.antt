use Rattle.std.proofs.Common.{◌≡◌, ◌+◌, ◌<◌, length}
use Rattle.std.specs.Prelude.{IfSome}
use Rattle.rm_rounds.specs.Desk.{desk_state, Settles, left, one_if_some}
use Rattle.rm_rounds.proofs.desk.Desk.settle.Given as goal

abbrev pub invariant-loop-next : goal.invariant-loop-next
invariant-loop-next g l = record {
  settled : Settles (g.H.Holder.chosen l.initial.self.holder) l.initial.self.wishes l.next l.d (desk_state g.H.Holder.held l.initial.self) (desk_state g.H.Holder.held l.self);
  doctor : IfSome l.next (λ e. e < length l.initial.self.wishes.listed);
  wishes : l.self.wishes ≡ l.initial.self.wishes;
  chosen : g.H.Holder.chosen l.self.holder ≡ g.H.Holder.chosen l.initial.self.holder;
}

abbrev pub decreases-loop-next : goal.decreases-loop-next
decreases-loop-next g l = one_if_some l.next + left l.initial.self.wishes (desk_state g.H.Holder.held l.self)
