use Rattle.std.proofs.Common.{◌≡◌, ◌*◌, ℕ, List, pos, false, ◌-ℤ◌, ◌≤ℤ◌}
use Rattle.rm_sets.specs.Sets.{has}
use Rattle.rm_audit.specs.Blocking.{IsWeighed}
use Rattle.rm_audit.proofs.Blocks.{IsWalkedSo}
use Rattle.rm_audit.proofs.blocking.blocks.Given as goal

abbrev pub invariant-loop-i : goal.invariant-loop-i
invariant-loop-i l = record {
  low : (pos 0 -ℤ pos (l.i * 1000000000)) ≤ℤ l.gain;
  high : l.gain ≤ℤ pos (l.i * 1000000000);
  walked : (S : List ℕ) → IsWeighed l.board S l.counts l.cheapest → has l.x S ≡ false → IsWalkedSo l.board S l.x l.chain l.i l.gain;
}
