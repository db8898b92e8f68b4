use Rattle.std.proofs.Common.{◌≡◌, ◌<◌, ℕ, get_or, length, count_by, take, []}
use Rattle.rm_sets.specs.Sets.{has}
use Rattle.rm_laminar.specs.Chains.{chain_lists}
use Rattle.rm_laminar.proofs.chains.count_shared.Given as goal

abbrev pub invariant-loop-i : goal.invariant-loop-i
invariant-loop-i l = (a : ℕ) → a < length l.earlier → get_or l.shared a 0 ≡ count_by (λ h. has h (get_or (chain_lists l.earlier) a [])) (take l.i l.group)
