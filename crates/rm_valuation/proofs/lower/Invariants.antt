use Rattle.std.proofs.Common.{◌≡◌, ℕ, ◌-◌, ◌<◌, length, get_or, take, eqb, count_by}
use Rattle.rm_valuation.proofs.lower.Given as goal

abbrev pub invariant-loop-i : goal.invariant-loop-i
invariant-loop-i l = (length l.counts ≡ length l.initial.counts) × ((k : ℕ) → k < length l.initial.counts → get_or l.counts k 0 ≡ get_or l.initial.counts k 0 - count_by (λ p. eqb p k) (take l.i l.places))
