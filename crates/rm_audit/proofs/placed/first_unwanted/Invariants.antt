use Rattle.std.proofs.Common.{◌≡◌, take, None}
use Rattle.std.specs.Prelude.{find}
use Rattle.rm_sets.specs.Sets.{without}
use Rattle.rm_market.specs.Best.{values_of, is_better}
use Rattle.rm_audit.proofs.placed.first_unwanted.Given as goal

abbrev pub invariant-loop-i : goal.invariant-loop-i
invariant-loop-i l = find (λ z. is_better (values_of l.board) (without l.contracts z) l.contracts) (take l.i l.contracts) ≡ None
