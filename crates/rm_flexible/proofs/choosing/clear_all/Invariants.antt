use Rattle.std.proofs.Common.{◌≡◌, length}
use Rattle.rm_flexible.proofs.Together.{AreClear}
use Rattle.rm_flexible.proofs.choosing.clear_all.Given as goal

abbrev pub invariant-loop-i : goal.invariant-loop-i
invariant-loop-i l = record {
  long : length l.counts ≡ length l.initial.counts;
  clear : AreClear l.regions l.i l.counts;
}
