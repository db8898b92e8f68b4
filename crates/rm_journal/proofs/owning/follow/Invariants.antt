use Rattle.std.proofs.Common.{◌≡◌, ◌+◌, ◌≤◌}
use Rattle.std.specs.Prelude.{IfSome}
use Rattle.rm_rounds.specs.Desk.{desk_state, left, one_if_some}
use Rattle.rm_journal.specs.Owned.{IsOwnSoFar, NobodyElse}
use Rattle.rm_journal.proofs.owning.follow.Given as goal

abbrev pub invariant-loop-next : goal.invariant-loop-next
invariant-loop-next g l = record {
  so_far : IsOwnSoFar (g.H.Holder.chosen l.initial.desk.holder) l.initial.desk.wishes (desk_state g.H.Holder.held l.desk) l.entries.items;
  before : NobodyElse l.initial.desk.wishes (desk_state g.H.Holder.held l.desk) (l.d + 1) l.next;
  doctor : IfSome l.next (λ e. e ≤ l.d);
  wishes : l.desk.wishes ≡ l.initial.desk.wishes;
  chosen : g.H.Holder.chosen l.desk.holder ≡ g.H.Holder.chosen l.initial.desk.holder;
}

abbrev pub decreases-loop-next : goal.decreases-loop-next
decreases-loop-next g l = left l.initial.desk.wishes (desk_state g.H.Holder.held l.desk) + one_if_some l.next
