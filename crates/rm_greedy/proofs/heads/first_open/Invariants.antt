use Rattle.std.proofs.Common.{◌≡◌, ◌<◌, ◌≤◌, ◌-◌, ℕ, length, get_or}
use Rattle.rm_greedy.specs.Heads.{IsRun}
use Rattle.rm_greedy.proofs.heads.first_open.Given as goal

abbrev pub invariant-loop-place : goal.invariant-loop-place
invariant-loop-place l = record {
  within : l.place < length l.offered;
  after : l.fn.from ≤ l.place;
  run : IsRun l.board l.offered l.fn.from l.place;
  marked : (k : ℕ) → l.fn.from ≤ k → k < l.place → get_or l.marks (get_or l.offered k 0) 0 ≡ 1;
}

abbrev pub decreases-loop-place : goal.decreases-loop-place
decreases-loop-place l = length l.offered - l.place
