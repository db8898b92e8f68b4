use Rattle.std.proofs.Common.{arith, ◌∙◌}
use Rattle.std.proofs.lemmas.List.{length-set}
use Rattle.rm_sets.proofs.Sizes.{length_below}
use Rattle.rm_market.specs.Board.{contract_count}
use Rattle.rm_greedy.proofs.Reached.{heads_kept, heads_more, heads_are}
use Rattle.rm_greedy.proofs.heads.write_heads.Goals as goal

pub prove-unreachable-requires : goal.prove-unreachable-requires
prove-unreachable-requires c =
    let short = length_below (contract_count c.args.board.now) c.args.offered.now c.requires.offered in
    omega (arith, short)

pub loop-i-preserved-then-goes_on : goal.loop-i-preserved-then-goes_on
loop-i-preserved-then-goes_on c = (
  c.loop-i.invariant.0,
  heads_kept c.args.board.now c.args.offered.now c.loop-i.heads c.loop-i.i c.loop-i.count c.loop-i.invariant.1 c.if-i-gt0.true (c.goes_on.ensures.0 c.if-goes_on.true),
)

pub loop-i-preserved : goal.loop-i-preserved
loop-i-preserved c =
    let same = length-set c.loop-i.heads c.loop-i.count c.loop-i.i in
    let few = c.loop-i.invariant.1.few in (
      same ∙ c.loop-i.invariant.0,
      heads_more c.args.board.now c.args.offered.now c.loop-i.heads c.loop-i.i c.loop-i.count c.loop-i.invariant.1 c.loop-i-test.true (omega (arith, few)),
    )

pub returns-clause-heads : goal.returns-clause-heads
returns-clause-heads c =
    let few = c.loop-i.invariant.1.few in
    heads_are c.args.board.now c.args.offered.now c.loop-i.heads c.loop-i.i c.loop-i.count c.loop-i.invariant.1 c.loop-i-test.false (omega (arith, few))
