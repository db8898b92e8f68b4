use Rattle.std.proofs.Common.{◌≡◌, ◌∙◌, ◌<◌, ℕ, All, Some, None, length, sym, subst}
use Rattle.rm_market.specs.Board.{contract_count, leaf_of}
use Rattle.rm_verdict_laws.specs.Findings.{IsFinding}
use Rattle.rm_case.specs.Case.{market}
use Rattle.rm_valuation.specs.Counts.{AreCounts}
use Rattle.rm_audit.specs.Blocking.{AreMarks, IsFirstBlocking, IsWeighed}
use Rattle.rm_audit.proofs.Findings.{over_finding, chosen, unwanted_finding, weighed, first_finding}
use Rattle.rm_audit.proofs.Walkable.{leaves_low, listed_low}
use Rattle.rm_audit.proofs.finding.finding_on.Goals as goal

pub returns-in-Some-clause-finding : goal.returns-in-Some-clause-finding
returns-in-Some-clause-finding c =
    let m = market c.args.case.now in
    let ok = c.board-board.ensures.case.market in
    let S = c.args.contracts.now in
    let p = c.requires.placement in
    let b = c.board-board.result.now in
    let e = c.board-board.ensures.board in
    let counted : AreCounts b S c.deref.result.now = subst (AreCounts b S) (sym c.deref.ensures.value) c.in_ok-counts.ensures.counts in
    over_finding m ok S p b e c.in-Some.node (sym (c.first_over.ensures S counted) ∙ c.in-Some.is)

pub first_unwanted-requires-clause-chosen : goal.first_unwanted-requires-clause-chosen
first_unwanted-requires-clause-chosen c =
    let m = market c.args.case.now in
    let ok = c.board-board.ensures.case.market in
    let S = c.args.contracts.now in
    let p = c.requires.placement in
    let b = c.board-board.result.now in
    let e = c.board-board.ensures.board in
    let counted : AreCounts b S c.deref.result.now = subst (AreCounts b S) (sym c.deref.ensures.value) c.in_ok-counts.ensures.counts in
    let none = sym (c.first_over.ensures S counted) ∙ c.in_default.is in
    chosen m ok S p b e none

pub returns-in-Some-first_unwanted-clause-finding : goal.returns-in-Some-first_unwanted-clause-finding
returns-in-Some-first_unwanted-clause-finding c =
    let m = market c.args.case.now in
    let ok = c.board-board.ensures.case.market in
    let S = c.args.contracts.now in
    let p = c.requires.placement in
    let b = c.board-board.result.now in
    let e = c.board-board.ensures.board in
    let counted : AreCounts b S c.deref.result.now = subst (AreCounts b S) (sym c.deref.ensures.value) c.in_ok-counts.ensures.counts in
    let none = sym (c.first_over.ensures S counted) ∙ c.in_default.is in
    unwanted_finding m ok S p b e none c.in-Some-first_unwanted.z (sym c.first_unwanted.ensures ∙ c.in-Some-first_unwanted.is)

pub cheapest_of-requires-clause-leaves : goal.cheapest_of-requires-clause-leaves
cheapest_of-requires-clause-leaves c =
    subst (λ b. (x : ℕ) → x < contract_count b → leaf_of b x < length b.ranks) (sym c.board-board.ensures.board) (leaves_low c.args.case.now)

pub first_blocking-blocking-requires-clause-contracts : goal.first_blocking-blocking-requires-clause-contracts
first_blocking-blocking-requires-clause-contracts c =
    subst (λ b. All (All (λ x. x < contract_count b)) c.listed.result.now) (sym c.board-board.ensures.board)
    (subst (All (All (λ x. x < contract_count (market c.args.case.now).board))) (sym c.listed.ensures.listed) (listed_low c.args.case.now c.board-board.ensures.case))

pub returns-clause-finding : goal.returns-clause-finding
returns-clause-finding c =
    let m = market c.args.case.now in
    let ok = c.board-board.ensures.case.market in
    let S = c.args.contracts.now in
    let p = c.requires.placement in
    let b = c.board-board.result.now in
    let e = c.board-board.ensures.board in
    let counted : AreCounts b S c.deref.result.now = subst (AreCounts b S) (sym c.deref.ensures.value) c.in_ok-counts.ensures.counts in
    let none = sym (c.first_over.ensures S counted) ∙ c.in_default.is in
    let kept = sym c.first_unwanted.ensures ∙ c.in_default-first_unwanted.is in
    let weights = weighed m ok S p b e none kept c.in_ok-counts.counts.items c.in_ok-cheapest.cheapest.items c.in_ok-counts.ensures.counts c.in_ok-cheapest.ensures.cheapest in
    let at_counts : IsWeighed b S c.deref-4.result.now c.in_ok-cheapest.cheapest.items = subst (λ l. IsWeighed b S l c.in_ok-cheapest.cheapest.items) (sym c.deref-4.ensures.value) weights in
    let at_all : IsWeighed b S c.deref-4.result.now c.deref-5.result.now = subst (IsWeighed b S c.deref-4.result.now) (sym c.deref-5.ensures.value) at_counts in
    let marks : AreMarks (contract_count b) S c.args.marks.now = subst (λ d. AreMarks (contract_count d) S c.args.marks.now) (sym e) c.requires.marks in
    let found = c.first_blocking-blocking.ensures S at_all marks in
    let told = subst (λ lists. IsFirstBlocking b lists S c.first_blocking-blocking.result) c.listed.ensures.listed found in
    subst (IsFinding m S) (sym c.blocking_finding.ensures) (first_finding m ok S p b e none kept c.first_blocking-blocking.result told)
