use Rattle.std.proofs.Common.{◌≡◌, List, ℕ, take, None, false}
use Rattle.std.specs.Prelude.{find}
use Rattle.rm_sets.specs.Sets.{has, IsIn, with_one}
use Rattle.rm_market.specs.Best.{values_of, is_better}
use Rattle.rm_valuation.specs.Counts.{AreCounts}
use Rattle.rm_exchange.specs.Counted.{IsChosen}
use Rattle.rm_exchange.proofs.verdicts.first_addition.Given as goal

abbrev pub invariant-loop-i : goal.invariant-loop-i
invariant-loop-i l = (S : List ℕ) → ((x : ℕ) → IsIn x l.refused → has x S ≡ false) → IsChosen l.board S → AreCounts l.board S l.counts →
    find (λ x. is_better (values_of l.board) (with_one S x) S) (take l.i l.refused) ≡ None
