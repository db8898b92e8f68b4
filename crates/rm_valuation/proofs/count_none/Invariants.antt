use Rattle.std.proofs.Common.{◌≡◌, ℕ, ◌<◌, length, get_or}
use Rattle.rm_valuation.proofs.count_none.Given as goal

abbrev pub invariant-loop-i : goal.invariant-loop-i
invariant-loop-i l = (length l.counts ≡ length l.initial.counts) × ((k : ℕ) → k < l.i → get_or l.counts k 0 ≡ 0)
