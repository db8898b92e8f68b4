use Rattle.std.proofs.Common.{All, ap, length, sym, subst, ◌∙◌}
use Rattle.std.proofs.lemmas.Result.{IfOk-weaker}
use Rattle.rm_market_laws.proofs.Wishes.{are_wishes}
use Rattle.rm_case.specs.Case.{market}
use Rattle.rm_transit.specs.Running.{state_after}
use Rattle.rm_market.specs.Market.{wishes_of}
use Rattle.rm_transit.specs.Travel.{IsEventOf}
use Rattle.rm_transit.proofs.CaseRuns.{case_marks_below, leads, marks_are, marks_long, rests_are, same_wishes}
use Rattle.rm_transit.proofs.running.run_events.Goals as goal

pub run_with-requires-clause-wishes : goal.run_with-requires-clause-wishes
run_with-requires-clause-wishes c =
    rw (c.in_ok-holder.ensures.count, c.owners.ensures, c.board-board.ensures.board, c.listed.ensures.listed) (are_wishes (market c.args.case.now) c.listed.ensures.case.market)

pub run_with-requires-clause-events : goal.run_with-requires-clause-events
run_with-requires-clause-events c =
    subst (λ w. All (IsEventOf w) c.args.events.now)
    (sym (same_wishes c.args.case.now c.listed.ensures.case c.board-board.result.now _ c.owners.result.now c.listed.result.now
    c.board-board.ensures.board c.in_ok-holder.ensures.chosen c.owners.ensures c.listed.ensures.listed c.args.events.now))
    c.requires

pub returns-clause-marks : goal.returns-clause-marks
returns-clause-marks c =
    IfOk-weaker c.run_with.result _ _
    (λ s is. marks_are c.args.case.now c.listed.ensures.case c.board-board.result.now _ c.owners.result.now c.listed.result.now
    c.board-board.ensures.board c.in_ok-holder.ensures.chosen c.owners.ensures c.listed.ensures.listed c.args.events.now s.marks.items is.0)
    c.run_with.ensures

pub returns-clause-closed : goal.returns-clause-closed
returns-clause-closed c =
    IfOk-weaker c.run_with.result _ _
    (λ s is. rests_are c.args.case.now c.listed.ensures.case c.board-board.result.now _ c.owners.result.now c.listed.result.now
    c.board-board.ensures.board c.in_ok-holder.ensures.chosen c.owners.ensures c.listed.ensures.listed c.args.events.now s.closed is.1)
    c.run_with.ensures

pub returns-clause-doctors : goal.returns-clause-doctors
returns-clause-doctors c =
    IfOk-weaker c.run_with.result _ _
    (λ s is. ap length (marks_are c.args.case.now c.listed.ensures.case c.board-board.result.now _ c.owners.result.now c.listed.result.now
    c.board-board.ensures.board c.in_ok-holder.ensures.chosen c.owners.ensures c.listed.ensures.listed c.args.events.now s.marks.items is.0)
    ∙ marks_long (wishes_of (market c.args.case.now)) (state_after c.args.case.now c.args.events.now) (length c.args.case.now.roster.doctors))
    c.run_with.ensures

pub returns-clause-contracts : goal.returns-clause-contracts
returns-clause-contracts c =
    IfOk-weaker c.run_with.result _ _
    (λ s is. case_marks_below c.args.case.now c.listed.ensures.case c.args.events.now s.marks.items
    (marks_are c.args.case.now c.listed.ensures.case c.board-board.result.now _ c.owners.result.now c.listed.result.now
    c.board-board.ensures.board c.in_ok-holder.ensures.chosen c.owners.ensures c.listed.ensures.listed c.args.events.now s.marks.items is.0))
    c.run_with.ensures

pub returns-clause-leads : goal.returns-clause-leads
returns-clause-leads c = leads c.args.case.now c.board-board.ensures.case c.args.events.now

pub returns-in_err-holder-clause-leads : goal.returns-in_err-holder-clause-leads
returns-in_err-holder-clause-leads c = leads c.args.case.now c.board-board.ensures.case c.args.events.now
