use Rattle.std.proofs.Common.{◌≡◌, None}
use Rattle.rm_rounds.specs.Desk.{desk_state, wishes}
use Rattle.rm_journal.specs.Owned.{IsOwnSoFar, NobodyElse}
use Rattle.rm_journal.proofs.owning.record.Given as goal

abbrev pub invariant-loop-d : goal.invariant-loop-d
invariant-loop-d g l = record {
  so_far : IsOwnSoFar (g.H.Holder.chosen l.fn.holder) (wishes l.owners l.listed) (desk_state g.H.Holder.held l.desk) l.entries.items;
  before : NobodyElse (wishes l.owners l.listed) (desk_state g.H.Holder.held l.desk) l.d None;
  wishes : l.desk.wishes ≡ wishes l.owners l.listed;
  chosen : g.H.Holder.chosen l.desk.holder ≡ g.H.Holder.chosen l.fn.holder;
}
