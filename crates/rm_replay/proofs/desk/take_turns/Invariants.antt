use Rattle.std.proofs.Common.{◌≡◌, take}
use Rattle.rm_market.specs.Machine.{run, turns_of}
use Rattle.rm_rounds.specs.Desk.{desk_state}
use Rattle.rm_replay.proofs.desk.take_turns.Given as goal

abbrev pub invariant-loop-i : goal.invariant-loop-i
invariant-loop-i g l = record {
  turns : l.turns.items ≡ turns_of (g.H.Holder.chosen l.initial.desk.holder) l.initial.desk.wishes (desk_state g.H.Holder.held l.initial.desk) (take l.i l.order);
  state : desk_state g.H.Holder.held l.desk ≡ run (g.H.Holder.chosen l.initial.desk.holder) l.initial.desk.wishes (desk_state g.H.Holder.held l.initial.desk) (take l.i l.order);
  wishes : l.desk.wishes ≡ l.initial.desk.wishes;
  chosen : g.H.Holder.chosen l.desk.holder ≡ g.H.Holder.chosen l.initial.desk.holder;
}
