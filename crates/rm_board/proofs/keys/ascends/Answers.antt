use Rattle.std.proofs.Common.{◌-◌, arith}
use Rattle.rm_board.specs.TieKeys.{rank_key}
use Rattle.rm_board.proofs.Places.{below-count}
use Rattle.rm_board.proofs.TieKeys.{ascends-more, ascends-not, ascends-all}
use Rattle.rm_board.proofs.keys.ascends.Goals as goal

pub rank_key-requires-clause-contract : goal.rank_key-requires-clause-contract
rank_key-requires-clause-contract c = below-count _ _ c.requires.order (c.loop-i.i - 1) (omega (arith, c.loop-i-test.true))

pub rank_key-requires-in-loop-i-clause-contract : goal.rank_key-requires-in-loop-i-clause-contract
rank_key-requires-in-loop-i-clause-contract c = below-count _ _ c.requires.order c.loop-i.i c.loop-i-test.true

pub returns-then-rank_key : goal.returns-then-rank_key
returns-then-rank_key c =
    ascends-not (rank_key c.args.contracts.now) c.loop-i.i c.args.order.now c.loop-i.auto.i c.loop-i-test.true
    (omega (arith, c.if-rank_key.true, c.rank_key.ensures, c.rank_key-in-loop-i.ensures))

pub loop-i-preserved : goal.loop-i-preserved
loop-i-preserved c =
    ascends-more (rank_key c.args.contracts.now) c.loop-i.i c.args.order.now c.loop-i.auto.i c.loop-i.invariant
    (omega (arith, c.if-rank_key.false, c.rank_key.ensures, c.rank_key-in-loop-i.ensures))

pub returns : goal.returns
returns c = ascends-all (rank_key c.args.contracts.now) c.loop-i.i c.args.order.now (omega (arith, c.loop-i-test.false)) c.loop-i.invariant
