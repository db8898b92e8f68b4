use Rattle.std.proofs.Common.{◌≡◌, ℕ, ◌<◌, false, get_or, None}
use Rattle.std.specs.Option.{is_none}
use Rattle.rm_audit.proofs.placement.first_missing.Given as goal

abbrev pub invariant-loop-d : goal.invariant-loop-d
invariant-loop-d l = (e : ℕ) → e < l.d → is_none (get_or l.rows e None) ≡ false
