use Rattle.std.proofs.Common.{[], ◌∙◌, sym}
use Rattle.rm_market.specs.Board.{number_of}
use Rattle.rm_board.proofs.ListedContracts.{none-more, one-added}
use Rattle.rm_case.proofs.replaced.contracts_at.Goals as goal

pub loop-i-preserved-in_default : goal.loop-i-preserved-in_default
loop-i-preserved-in_default c =
    c.loop-i.invariant ∙ sym (none-more (number_of c.args.board.now.ranks c.args.d) c.args.hospitals.now c.loop-i.i c.loop-i-test.true (rw c.in_default.is at c.find.ensures))

pub loop-i-preserved : goal.loop-i-preserved
loop-i-preserved c =
    one-added [] _ _ (number_of c.args.board.now.ranks c.args.d) c.args.hospitals.now c.loop-i.i c.in-Some.x c.loop-i.invariant c.loop-i-test.true (rw c.in-Some.is at c.find.ensures) c.in_ok-push.ensures.items
