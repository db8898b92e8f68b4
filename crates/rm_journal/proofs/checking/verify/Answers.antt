use Rattle.std.proofs.lemmas.Result.{IfOk-weaker}
use Rattle.rm_market_laws.proofs.Wishes.{are_wishes}
use Rattle.rm_case.specs.Case.{market}
use Rattle.rm_journal.proofs.InMarket.{accepted_in, placed_in, says_in}
use Rattle.rm_journal.proofs.checking.verify.Goals as goal

pub verify_with-requires-clause-wishes : goal.verify_with-requires-clause-wishes
verify_with-requires-clause-wishes c =
    rw (c.in_ok-holder.ensures.count, c.owners.ensures, c.board-board.ensures.board, c.listed.ensures.listed) (are_wishes (market c.args.case.now) c.listed.ensures.case.market)

pub returns-clause-says : goal.returns-clause-says
returns-clause-says c =
    IfOk-weaker c.verify_with.result _ _
    (λ check says. says_in (market c.args.case.now) _ c.board-board.result.now c.owners.result.now c.listed.result.now
    c.board-board.ensures.board c.in_ok-holder.ensures.chosen c.owners.ensures c.listed.ensures.listed c.args.entries.now check says)
    c.verify_with.ensures

pub returns-clause-accepted : goal.returns-clause-accepted
returns-clause-accepted c =
    IfOk-weaker c.verify_with.result _ _
    (λ check says. accepted_in (market c.args.case.now) _ c.board-board.result.now c.owners.result.now c.listed.result.now
    c.board-board.ensures.board c.in_ok-holder.ensures.chosen c.owners.ensures c.listed.ensures.listed c.args.entries.now check
    c.listed.ensures.case.market c.in_ok-holder.ensures.best says)
    c.verify_with.ensures

pub returns-clause-placement : goal.returns-clause-placement
returns-clause-placement c =
    IfOk-weaker c.verify_with.result _ _
    (λ check says accepted. placed_in (market c.args.case.now) _ c.board-board.result.now c.owners.result.now c.listed.result.now
    c.board-board.ensures.board c.in_ok-holder.ensures.chosen c.owners.ensures c.listed.ensures.listed c.args.entries.now check
    c.listed.ensures.case.market c.in_ok-holder.ensures.best says accepted)
    c.verify_with.ensures
