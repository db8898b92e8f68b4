use Rattle.std.proofs.Common.{refl}
use Rattle.std.proofs.lemmas.Result.{IfOk-weaker}
use Rattle.rm_market_laws.proofs.Wishes.{are_wishes}
use Rattle.rm_case.specs.Case.{market}
use Rattle.rm_journal_laws.specs.declared.Check.TheVariants as checks
use Rattle.rm_journal.proofs.InMarket.{own_in, placed_in}
use Rattle.rm_journal.proofs.owning.own_journal.Goals as goal

pub record-requires-clause-wishes : goal.record-requires-clause-wishes
record-requires-clause-wishes c =
    rw (c.in_ok-holder.ensures.count, c.owners.ensures, c.board-board.ensures.board, c.listed.ensures.listed) (are_wishes (market c.args.case.now) c.listed.ensures.case.market)

pub returns-clause-own : goal.returns-clause-own
returns-clause-own c =
    IfOk-weaker c.record.result _ _
    (λ v own. own_in (market c.args.case.now) _ c.board-board.result.now c.owners.result.now c.listed.result.now
    c.board-board.ensures.board c.in_ok-holder.ensures.chosen c.owners.ensures c.listed.ensures.listed v.items checks.Accepted own)
    c.record.ensures.own

pub returns-clause-placement : goal.returns-clause-placement
returns-clause-placement c =
    IfOk-weaker c.record.result _ _
    (λ v own. placed_in (market c.args.case.now) _ c.board-board.result.now c.owners.result.now c.listed.result.now
    c.board-board.ensures.board c.in_ok-holder.ensures.chosen c.owners.ensures c.listed.ensures.listed v.items checks.Accepted
    c.listed.ensures.case.market c.in_ok-holder.ensures.best own.accepted refl)
    c.record.ensures.own

pub returns-clause-contracts : goal.returns-clause-contracts
returns-clause-contracts c = rw (c.in_ok-holder.ensures.count, c.board-board.ensures.board) at c.record.ensures.contracts
