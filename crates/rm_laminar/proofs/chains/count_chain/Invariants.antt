use Rattle.std.proofs.Common.{◌≡◌, ◌+◌, ◌<◌, ◌==◌, ℕ, get_or, length, count_by, take}
use Rattle.rm_laminar.proofs.chains.count_chain.Given as goal

abbrev pub invariant-loop-i : goal.invariant-loop-i
invariant-loop-i l = (a : ℕ) → a < length l.shared → get_or l.shared a 0 ≡ get_or l.initial.shared a 0 + count_by (λ k. k == l.hospitals + a) (take l.i l.chain)
