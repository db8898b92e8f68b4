use Rattle.std.proofs.Common.{rules, get_or, sym}
use Rattle.rm_sets.specs.Sets.{without}
use Rattle.rm_sets.proofs.Members.{IsIn-get_or}
use Rattle.rm_market.specs.Best.{values_of, is_better}
use Rattle.rm_valuation.proofs.Taken.{none_more, some_here}
use Rattle.rm_exchange.proofs.Changes.{removal_better, removal_no_better}
use Rattle.rm_audit.proofs.placed.first_unwanted.Goals as goal

pub loss-requires-clause-contract : goal.loss-requires-clause-contract
loss-requires-clause-contract c = c.requires.chosen.set.below _ (IsIn-get_or c.args.contracts.now c.loop-i.i 0 c.loop-i-test.true)

pub returns-then-loss-lt0 : goal.returns-then-loss-lt0
returns-then-loss-lt0 c =
    let S = c.args.contracts.now in
    let z = get_or S c.loop-i.i 0 in
    let i = IsIn-get_or S c.loop-i.i 0 c.loop-i-test.true in
    sym (some_here (λ z. is_better (values_of c.args.board.now) (without S z) S) c.loop-i.i S c.loop-i-test.true c.loop-i.invariant
    (removal_better c.args.board.now S z c.loss.result c.requires.chosen (c.loss.ensures.change S c.requires.chosen.set.ascending i c.requires.chosen.feasible c.requires.counts) (search rules)))

pub loop-i-preserved : goal.loop-i-preserved
loop-i-preserved c =
    let S = c.args.contracts.now in
    let z = get_or S c.loop-i.i 0 in
    let i = IsIn-get_or S c.loop-i.i 0 c.loop-i-test.true in
    none_more (λ z. is_better (values_of c.args.board.now) (without S z) S) c.loop-i.i S c.loop-i-test.true c.loop-i.invariant
    (removal_no_better c.args.board.now S z c.loss.result c.requires.chosen i (c.loss.ensures.change S c.requires.chosen.set.ascending i c.requires.chosen.feasible c.requires.counts) (search rules))
