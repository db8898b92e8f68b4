use Rattle.std.proofs.Common.{◌≡◌, ◌≤◌, ◌<◌, ◌+◌, ℕ, length, get_or, drop, eqb, count_by}
use Rattle.rm_market.specs.Board.{hospital_of}
use Rattle.rm_flexible.proofs.offers.count_offers.Given as goal

abbrev pub invariant-loop-place : goal.invariant-loop-place
invariant-loop-place l = record {
  marks_length : length l.marks ≡ length l.initial.marks;
  counts_length : length l.counts ≡ length l.initial.counts;
  place : l.place ≤ length l.offered;
  counts : (h : ℕ) → get_or l.counts h 0 ≡ get_or l.initial.counts h 0 + count_by (λ x. eqb (hospital_of l.board x) h) (drop l.place l.offered);
  marks : (k : ℕ) → l.place ≤ k → k < length l.offered → get_or l.marks (get_or l.offered k 0) 0 ≡ count_by (λ x. eqb (hospital_of l.board x) (hospital_of l.board (get_or l.offered k 0))) (drop k l.offered);
}

abbrev pub decreases-loop-place : goal.decreases-loop-place
decreases-loop-place l = l.place
