use Rattle.std.proofs.Common.{◌≡◌, ℕ, List, length, get_or}
use Rattle.std.specs.Prelude.{IsFalse}
use Rattle.rm_market.specs.Board.{Board}
use Rattle.rm_market.specs.Flexible.{up_to_targets}
use Rattle.rm_flexible.specs.Counts.{IsOffered, IsInRound, has_hospital}
use Rattle.rm_flexible.proofs.Rounds.{after_rounds}
use Rattle.rm_flexible.proofs.turns.take_turns.Given as goal

abbrev pub invariant-loop-round : goal.invariant-loop-round
invariant-loop-round l = record {
  long : length l.counts ≡ length l.initial.counts;
  others : (h : ℕ) → IsFalse (has_hospital l.region h) → get_or l.counts h 0 ≡ get_or l.initial.counts h 0;
  taken : (b : Board) (X : List ℕ) → IsOffered b l.region X → IsInRound b l.region X (up_to_targets b l.region X) 0 0 l.initial.counts l.initial.total → IsInRound b l.region X (after_rounds b l.region X l.round) l.round 0 l.counts l.total;
}
