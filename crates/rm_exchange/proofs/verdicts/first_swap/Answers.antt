use Rattle.std.proofs.Common.{get_or, take, w64, Some, sym, subst, arith, ◌∙◌}
use Rattle.std.proofs.lemmas.Int.{to_z-of_z}
use Rattle.std.proofs.lemmas.List.{take_all, take_more}
use Rattle.rm_sets.proofs.Members.{IsIn-get_or}
use Rattle.rm_market.specs.Board.{contract_count}
use Rattle.rm_market.specs.Best.{values_of}
use Rattle.rm_exchange.specs.Swaps.{IsFirstSwap}
use Rattle.rm_valuation.proofs.Taken.{below_take, in_take}
use Rattle.rm_exchange.proofs.Changes.{fits_i64, put_back}
use Rattle.rm_exchange.proofs.FirstSwap.{none_for, some_for, first_swap_is}
use Rattle.rm_exchange.proofs.verdicts.first_swap.Goals as goal

pub take_out-loss-requires-clause-contract : goal.take_out-loss-requires-clause-contract
take_out-loss-requires-clause-contract c = c.requires.chosen.set.below _ (IsIn-get_or c.args.chosen.now c.loop-i.i 0 c.loop-i-test.true)

pub first_for-first-requires-clause-refused : goal.first_for-first-requires-clause-refused
first_for-first-requires-clause-refused c = below_take (contract_count c.args.board.now) c.loop-i.end c.args.refused.now c.requires.refused

pub first_for-first-requires-clause-place : goal.first_for-first-requires-clause-place
first_for-first-requires-clause-place c = c.requires.chosen.set.below _ (IsIn-get_or c.args.chosen.now c.loop-i.i 0 c.loop-i-test.true)

pub count_in-requires-clause-contract : goal.count_in-requires-clause-contract
count_in-requires-clause-contract c = c.requires.chosen.set.below _ (IsIn-get_or c.args.chosen.now c.loop-i.i 0 c.loop-i-test.true)

pub loop-i-preserved-in_default : goal.loop-i-preserved-in_default
loop-i-preserved-in_default c =
    let b = c.args.board.now in
    let S = c.args.chosen.now in
    let L = c.args.refused.now in
    let z = get_or S c.loop-i.i 0 in
    let loss = c.take_out-loss.result in
    let taken = c.take_out-loss.ensures.taken S c.requires.chosen (IsIn-get_or S c.loop-i.i 0 c.loop-i-test.true) c.loop-i.invariant.counts in
    let first = rw (to_z-of_z w64 loss (fits_i64 loss c.take_out-loss.ensures.low c.take_out-loss.ensures.high)) at c.first_for-first.ensures.first in
    record {
      nodes = c.count_in.ensures.nodes ∙ sym c.requires.nodes;
      counts = put_back b S z c.take_out-loss.new.counts c.count_in.new.counts loss taken c.count_in.ensures.counts;
      end = c.loop-i.invariant.end;
      first = subst (λ Z. IsFirstSwap (values_of b) S L Z c.loop-i.end c.loop-i.swap) (sym (take_more S c.loop-i.i 0 c.loop-i-test.true))
          (none_for (values_of b) S L (take c.loop-i.i S) c.loop-i.end z c.loop-i.swap c.loop-i.invariant.end c.loop-i.invariant.first
          (sym (first S taken (λ x i. c.requires.outside x (in_take c.loop-i.end L x i))) ∙ c.in_default.is));
    }

pub loop-i-preserved : goal.loop-i-preserved
loop-i-preserved c =
    let b = c.args.board.now in
    let S = c.args.chosen.now in
    let L = c.args.refused.now in
    let z = get_or S c.loop-i.i 0 in
    let loss = c.take_out-loss.result in
    let taken = c.take_out-loss.ensures.taken S c.requires.chosen (IsIn-get_or S c.loop-i.i 0 c.loop-i-test.true) c.loop-i.invariant.counts in
    let first = rw (to_z-of_z w64 loss (fits_i64 loss c.take_out-loss.ensures.low c.take_out-loss.ensures.high)) at c.first_for-first.ensures.first in
    let more = some_for (values_of b) S L (take c.loop-i.i S) c.loop-i.end z c.in-Some.place c.loop-i.swap c.loop-i.invariant.end c.loop-i.invariant.first
    (sym (first S taken (λ x i. c.requires.outside x (in_take c.loop-i.end L x i))) ∙ c.in-Some.is) in
    record {
      nodes = c.count_in.ensures.nodes ∙ sym c.requires.nodes;
      counts = put_back b S z c.take_out-loss.new.counts c.count_in.new.counts loss taken c.count_in.ensures.counts;
      end = let end = c.loop-i.invariant.end in omega (arith, more.0, end);
      first = subst (λ Z. IsFirstSwap (values_of b) S L Z c.in-Some.place (Some (get_or L c.in-Some.place 0, z))) (sym (take_more S c.loop-i.i 0 c.loop-i-test.true)) more.1;
    }

pub returns-clause-swap : goal.returns-clause-swap
returns-clause-swap c = λ X e.
    let S = c.args.chosen.now in
    let v = values_of c.args.board.now in
    first_swap_is v X S c.args.refused.now c.loop-i.end c.loop-i.swap e c.requires.refused.ascending
    (subst (λ Z. IsFirstSwap v S c.args.refused.now Z c.loop-i.end c.loop-i.swap) (take_all c.loop-i.i S c.loop-i-test.false) c.loop-i.invariant.first)
