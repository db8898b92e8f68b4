use Rattle.std.proofs.Common.{◌<◌, ℕ, get_or}
use Rattle.rm_market.specs.declared.Outcome.TheVariants as out
use Rattle.rm_journal.proofs.tests.checks.are_below.Given as goal

abbrev pub invariant-loop-i : goal.invariant-loop-i
invariant-loop-i l = (k : ℕ) → k < l.i → (get_or l.entries k (record { x = 0; outcome = out.Kept })).x < l.n
