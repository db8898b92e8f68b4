use Rattle.std.proofs.Common.{◌≡◌, List, ℕ, length}
use Rattle.rm_sets.specs.Sets.{IsSetBelow}
use Rattle.rm_market.specs.Board.{Board, contract_count, hospital_of}
use Rattle.rm_flexible_laws.specs.Region.{IsRegions}
use Rattle.rm_flexible.specs.Counts.{AreCounted}
use Rattle.rm_flexible.proofs.Together.{IsPart}
use Rattle.rm_flexible.proofs.choosing.take_all.Given as goal

abbrev pub invariant-loop-i : goal.invariant-loop-i
invariant-loop-i l = record {
  long : length l.counts ≡ length l.initial.counts;
  part : (b : Board) (X : List ℕ) → IsRegions (contract_count b) (hospital_of b) l.regions → IsSetBelow (contract_count b) X → AreCounted b l.regions X l.initial.counts → IsPart b l.regions X l.i l.counts;
}
