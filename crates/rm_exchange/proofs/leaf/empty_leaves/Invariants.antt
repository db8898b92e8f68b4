use Rattle.std.proofs.Common.{◌≡◌, ◌<◌, ℕ, [], length, get_or}
use Rattle.std.specs.BinaryHeap.{heap_capacity}
use Rattle.rm_exchange.specs.declared.leaf.Leaf.{Leaf}
use Rattle.rm_exchange.specs.Leaves.{room_at, IsLeafOf}
use Rattle.rm_exchange.proofs.leaf.empty_leaves.Given as goal

abbrev pub invariant-loop-h : goal.invariant-loop-h
invariant-loop-h l = record {
  all : length l.leaves.items ≡ l.h;
  each : (k : ℕ) (d : Leaf) → k < l.h → IsLeafOf l.board [] k (get_or l.leaves.items k d);
  room : (k : ℕ) (d : Leaf) → k < l.h → heap_capacity (get_or l.leaves.items k d).held ≡ room_at l.board k;
}
