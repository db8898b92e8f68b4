use Rattle.std.proofs.Common.{◌≡◌, ◌+◌, drop, length}
use Rattle.rm_rounds.specs.Desk.{IsDesk, state, wishes}
use Rattle.rm_journal_laws.specs.Journal.{check_from, check_of}
use Rattle.rm_journal.proofs.checking.verify_with.Given as goal

-- the arrays and the holder are where the first i entries lead, and these are good
abbrev pub invariant-loop-i : goal.invariant-loop-i
invariant-loop-i g l = record {
  desk : IsDesk (g.H.Holder.count l.holder) (g.H.Holder.chosen l.holder) (wishes l.owners l.listed) (state l.spent.items (g.H.Holder.held l.holder)) l.places.items;
  spent : length l.spent.items ≡ length l.listed;
  chosen : g.H.Holder.chosen l.holder ≡ g.H.Holder.chosen l.initial.holder;
  check : check_of (g.H.Holder.chosen l.initial.holder) (wishes l.owners l.listed) l.entries
      ≡ check_from (g.H.Holder.chosen l.initial.holder) (wishes l.owners l.listed) (l.i + 1) (state l.spent.items (g.H.Holder.held l.holder)) (drop l.i l.entries);
}
