use Rattle.std.proofs.Common.{◌≡◌, length, take}
use Rattle.rm_valuation.specs.Counts.{AreCounts}
use Rattle.rm_valuation.proofs.counting.count_all.Given as goal

abbrev pub invariant-loop-i : goal.invariant-loop-i
invariant-loop-i l = (length l.counts ≡ length l.board.nodes) × AreCounts l.board (take l.i l.chosen) l.counts
