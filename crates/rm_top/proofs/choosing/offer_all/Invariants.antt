use Rattle.std.proofs.Common.{◌≡◌, take}
use Rattle.rm_top.proofs.choosing.offer_all.Given as goal

-- of the first i offers what is chosen of them is held
abbrev pub invariant-loop-i : goal.invariant-loop-i
invariant-loop-i g l = record {
  held : g.H.Holder.held l.holder ≡ g.H.Holder.chosen l.initial.holder (take l.i l.offered);
  chosen : g.H.Holder.chosen l.holder ≡ g.H.Holder.chosen l.initial.holder;
  count : g.H.Holder.count l.holder ≡ g.H.Holder.count l.initial.holder;
}
