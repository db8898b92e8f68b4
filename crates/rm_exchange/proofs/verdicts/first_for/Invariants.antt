use Rattle.std.proofs.Common.{◌≡◌, List, ℕ, ◌<◌, get_or, false}
use Rattle.rm_sets.specs.Sets.{has, IsIn}
use Rattle.rm_market.specs.Best.{values_of, is_better, swapped}
use Rattle.rm_exchange.specs.Counted.{IsTakenOut}
use Rattle.rm_exchange.proofs.verdicts.first_for.Given as goal

abbrev pub invariant-loop-i : goal.invariant-loop-i
invariant-loop-i l = (S : List ℕ) → IsTakenOut l.board S l.z l.counts l.loss → ((x : ℕ) → IsIn x l.refused → has x S ≡ false) →
    (j : ℕ) → j < l.i → is_better (values_of l.board) (swapped S (get_or l.refused j 0) l.z) S ≡ false
