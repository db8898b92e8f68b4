use Rattle.std.proofs.Common.{get_or, w64, sym, ◌∙◌}
use Rattle.std.proofs.lemmas.Int.{to_z-of_z}
use Rattle.rm_sets.proofs.Members.{IsIn-get_or}
use Rattle.rm_market.specs.Best.{values_of, is_better, swapped}
use Rattle.rm_laminar.proofs.Counts.{position-some, position-none}
use Rattle.rm_valuation.proofs.Taken.{up_to_next}
use Rattle.rm_exchange.proofs.Changes.{fits_i64}
use Rattle.rm_exchange.proofs.verdicts.first_for.Goals as goal

pub is_better_for-requires-clause-contract : goal.is_better_for-requires-clause-contract
is_better_for-requires-clause-contract c = c.requires.refused.below _ (IsIn-get_or c.args.refused.now c.loop-i.i 0 c.loop-i-test.true)

pub returns-then-is_better_for-clause-first : goal.returns-then-is_better_for-clause-first
returns-then-is_better_for-clause-first c = λ S t out.
    let L = c.args.refused.now in
    let none = rw (to_z-of_z w64 c.args.loss (fits_i64 c.args.loss c.requires.low c.requires.high)) at c.loop-i.invariant in
    let test = rw (to_z-of_z w64 c.args.loss (fits_i64 c.args.loss c.requires.low c.requires.high)) at c.is_better_for.ensures in
    sym (position-some (λ x. is_better (values_of c.args.board.now) (swapped S x c.args.z) S) L c.loop-i.i 0 c.loop-i-test.true (none S t out)
    (sym (test S t (out (get_or L c.loop-i.i 0) (IsIn-get_or L c.loop-i.i 0 c.loop-i-test.true))) ∙ c.if-is_better_for.true))

pub loop-i-preserved : goal.loop-i-preserved
loop-i-preserved c = λ S t out j lt.
    let L = c.args.refused.now in
    up_to_next (λ x. is_better (values_of c.args.board.now) (swapped S x c.args.z) S) L c.loop-i.i (c.loop-i.invariant S t out)
    (sym (c.is_better_for.ensures S t (out (get_or L c.loop-i.i 0) (IsIn-get_or L c.loop-i.i 0 c.loop-i-test.true))) ∙ c.if-is_better_for.false) j lt

pub returns-clause-first : goal.returns-clause-first
returns-clause-first c = λ S t out.
    let past = c.loop-i-test.false in
    let none = rw (to_z-of_z w64 c.args.loss (fits_i64 c.args.loss c.requires.low c.requires.high)) at c.loop-i.invariant in
    sym (position-none (λ x. is_better (values_of c.args.board.now) (swapped S x c.args.z) S) c.args.refused.now c.loop-i.i 0 past (none S t out))
