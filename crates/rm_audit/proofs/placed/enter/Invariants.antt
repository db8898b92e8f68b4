use Rattle.std.proofs.Common.{◌≡◌, ◌*◌, ℕ, List, length, pos, ◌-ℤ◌, ◌≤ℤ◌}
use Rattle.rm_sets.specs.Sets.{IsIn}
use Rattle.rm_valuation.specs.Counts.{AreCounts}
use Rattle.rm_audit.specs.Placed.{AreCheapest}
use Rattle.rm_audit.proofs.Entering.{IsEntered, IsLostSoFar}
use Rattle.rm_audit.proofs.placed.enter.Given as goal

abbrev pub invariant-loop-i : goal.invariant-loop-i
invariant-loop-i l = record {
  all : length l.cheapest ≡ length l.board.nodes;
  low : (pos 0 -ℤ pos (l.i * 1000000000)) ≤ℤ l.loss;
  high : l.loss ≤ℤ pos (l.i * 1000000000);
  lost : (S : List ℕ) → AreCounts l.board S l.counts → IsLostSoFar l.board S l.z l.chain l.i l.loss;
  entered : (S before : List ℕ) → AreCounts l.board S l.counts → AreCheapest l.board S before l.initial.cheapest → IsEntered l.board S before l.z l.chain l.i l.cheapest;
}
