use Rattle.std.proofs.Common.{◌≡◌, ◌<◌, ℕ, length, get_or}
use Rattle.rm_greedy.proofs.marks.clear.Given as goal

abbrev pub invariant-loop-i : goal.invariant-loop-i
invariant-loop-i l = (length l.marks ≡ length l.initial.marks) × ((k : ℕ) → k < l.i → get_or l.marks (get_or l.contracts k 0) 0 ≡ 0)
