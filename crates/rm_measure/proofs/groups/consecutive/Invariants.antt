use Rattle.std.proofs.Common.{◌≡◌, ◌+◌, ◌<◌, ℕ, length, get_or}
use Rattle.rm_measure.proofs.groups.consecutive.Given as goal

abbrev pub invariant-loop-h : goal.invariant-loop-h
invariant-loop-h l = record {
  count : l.start + length l.group.items ≡ l.h;
  items : (k : ℕ) → k < length l.group.items → get_or l.group.items k 0 ≡ l.start + k;
  below : (k : ℕ) → k < length l.group.items → l.start + k < l.end;
}
