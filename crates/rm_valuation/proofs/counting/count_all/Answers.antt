use Rattle.std.proofs.Common.{subst, sym, take}
use Rattle.rm_sets.proofs.Members.{IsIn-get_or}
use Rattle.rm_market.specs.Board.{contract_count}
use Rattle.rm_valuation.specs.Counts.{AreCounts}
use Rattle.rm_valuation.proofs.Taken.{below_take, new_next, take_with_next}
use Rattle.rm_valuation.proofs.counting.count_all.Goals as goal

pub count_in-requires-clause-contract : goal.count_in-requires-clause-contract
count_in-requires-clause-contract c = c.requires.chosen.below _ (IsIn-get_or c.args.chosen.now c.loop-i.i 0 c.loop-i-test.true)

pub loop-i-preserved : goal.loop-i-preserved
loop-i-preserved c =
    let S = c.args.chosen.now in
    let k = c.loop-i.i in
    let lt = c.loop-i-test.true in
    let set = c.requires.chosen in (
      c.count_in.ensures.nodes,
      subst (λ T. AreCounts c.args.board.now T c.count_in.new.counts) (sym (take_with_next k S set.ascending lt))
          (c.count_in.ensures.counts (take k S) (below_take (contract_count c.args.board.now) k S set) (new_next k S set.ascending lt) c.loop-i.invariant.1),
    )
