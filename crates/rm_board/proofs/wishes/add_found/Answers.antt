use Rattle.rm_market.specs.Board.{number_of}
use Rattle.rm_board.proofs.ListedContracts.{one-added, none-more}
use Rattle.rm_board.proofs.wishes.add_found.Goals as goal

pub loop-i-preserved-in_default : goal.loop-i-preserved-in_default
loop-i-preserved-in_default c =
    let same = none-more (number_of c.args.contracts.now c.args.d) c.args.hospitals.now c.loop-i.i c.loop-i-test.true (rw c.in_default.is at c.find.ensures.number) in
    rw same c.loop-i.invariant

pub loop-i-preserved : goal.loop-i-preserved
loop-i-preserved c =
    one-added _ _ _ (number_of c.args.contracts.now c.args.d) c.args.hospitals.now c.loop-i.i c.in-Some.x c.loop-i.invariant c.loop-i-test.true (rw c.in-Some.is at c.find.ensures.number) c.in_ok-push.ensures.items
