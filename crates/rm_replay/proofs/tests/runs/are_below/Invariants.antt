use Rattle.std.proofs.Common.{◌<◌, ℕ, get_or}
use Rattle.rm_replay.proofs.tests.runs.are_below.Given as goal

abbrev pub invariant-loop-i : goal.invariant-loop-i
invariant-loop-i l = (k : ℕ) → k < l.i → get_or l.order k 0 < l.n
