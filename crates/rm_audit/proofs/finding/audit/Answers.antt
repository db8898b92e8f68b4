use Rattle.std.proofs.Common.{◌≡◌, ◌∙◌, get_or, length, false, sym, ap, subst}
use Rattle.std.specs.Prelude.{IfOk}
use Rattle.rm_sets.specs.Sets.{all_below}
use Rattle.rm_market.specs.Board.{contract_count}
use Rattle.rm_market.specs.Market.{set_of_places, wishes_of}
use Rattle.rm_market.specs.Stable.{IsPlacement}
use Rattle.rm_case.specs.Case.{market}
use Rattle.rm_verdict_laws.specs.Findings.{IsFinding}
use Rattle.rm_verdict_laws.proofs.Finding.{placed_below}
use Rattle.rm_audit.specs.Blocking.{AreMarks}
use Rattle.rm_audit.proofs.CountForm.{stable_by_counts}
use Rattle.rm_audit.proofs.Listed.{is_placement}
use Rattle.rm_audit.proofs.Marks.{marked_set}
use Rattle.rm_audit.proofs.Findings.{stable_where}
use Rattle.rm_audit.proofs.finding.audit.Goals as goal

pub contracts_of-requires : goal.contracts_of-requires
contracts_of-requires c = ap length c.deref.ensures.value ∙ (c.in_ok-marks.ensures.marks.all ∙ ap contract_count (sym c.board.ensures.board))

pub finding_on-requires-clause-placement : goal.finding_on-requires-clause-placement
finding_on-requires-clause-placement c =
    let s = c.args.case.now in
    let places = c.args.places.now in
    let S = set_of_places (market s) places in
    let p = is_placement s places c.marks_of.ensures.case c.requires in
    let marks = c.in_ok-marks.ensures.marks in
    let is : c.in_ok-contracts.contracts.items ≡ S = c.in_ok-contracts.ensures
    ∙ (ap (λ b. all_below (contract_count b) (λ x. get_or c.deref.result.now x false)) c.board.ensures.board
    ∙ (ap (λ l. all_below (contract_count (market s).board) (λ x. get_or l x false)) c.deref.ensures.value ∙ marked_set (contract_count (market s).board) S c.in_ok-marks.marks.items (placed_below (market s) S p) marks)) in
    let lent : c.deref-3.result.now ≡ S = c.deref-3.ensures.value ∙ is in
    subst (IsPlacement (wishes_of (market s))) (sym lent) p

pub finding_on-requires-clause-marks : goal.finding_on-requires-clause-marks
finding_on-requires-clause-marks c =
    let s = c.args.case.now in
    let places = c.args.places.now in
    let S = set_of_places (market s) places in
    let p = is_placement s places c.marks_of.ensures.case c.requires in
    let marks = c.in_ok-marks.ensures.marks in
    let is : c.in_ok-contracts.contracts.items ≡ S = c.in_ok-contracts.ensures
    ∙ (ap (λ b. all_below (contract_count b) (λ x. get_or c.deref.result.now x false)) c.board.ensures.board
    ∙ (ap (λ l. all_below (contract_count (market s).board) (λ x. get_or l x false)) c.deref.ensures.value ∙ marked_set (contract_count (market s).board) S c.in_ok-marks.marks.items (placed_below (market s) S p) marks)) in
    let lent : c.deref-3.result.now ≡ S = c.deref-3.ensures.value ∙ is in
    subst (λ l. AreMarks (contract_count (market s).board) c.deref-3.result.now l) (sym c.deref-2.ensures.value) (subst (λ L. AreMarks (contract_count (market s).board) L c.in_ok-marks.marks.items) (sym lent) marks)

pub returns-clause-finding : goal.returns-clause-finding
returns-clause-finding c =
    let s = c.args.case.now in
    let places = c.args.places.now in
    let S = set_of_places (market s) places in
    let p = is_placement s places c.marks_of.ensures.case c.requires in
    let marks = c.in_ok-marks.ensures.marks in
    let is : c.in_ok-contracts.contracts.items ≡ S = c.in_ok-contracts.ensures
    ∙ (ap (λ b. all_below (contract_count b) (λ x. get_or c.deref.result.now x false)) c.board.ensures.board
    ∙ (ap (λ l. all_below (contract_count (market s).board) (λ x. get_or l x false)) c.deref.ensures.value ∙ marked_set (contract_count (market s).board) S c.in_ok-marks.marks.items (placed_below (market s) S p) marks)) in
    let lent : c.deref-3.result.now ≡ S = c.deref-3.ensures.value ∙ is in
    subst (λ L. IfOk c.finding_on.result (IsFinding (market s) L)) lent c.finding_on.ensures.finding

pub returns-clause-stable : goal.returns-clause-stable
returns-clause-stable c =
    let s = c.args.case.now in
    let places = c.args.places.now in
    let S = set_of_places (market s) places in
    let p = is_placement s places c.marks_of.ensures.case c.requires in
    let marks = c.in_ok-marks.ensures.marks in
    let is : c.in_ok-contracts.contracts.items ≡ S = c.in_ok-contracts.ensures
    ∙ (ap (λ b. all_below (contract_count b) (λ x. get_or c.deref.result.now x false)) c.board.ensures.board
    ∙ (ap (λ l. all_below (contract_count (market s).board) (λ x. get_or l x false)) c.deref.ensures.value ∙ marked_set (contract_count (market s).board) S c.in_ok-marks.marks.items (placed_below (market s) S p) marks)) in
    let lent : c.deref-3.result.now ≡ S = c.deref-3.ensures.value ∙ is in
    stable_where (market s) c.marks_of.ensures.case.market S p c.finding_on.result (subst (λ L. IfOk c.finding_on.result (IsFinding (market s) L)) lent c.finding_on.ensures.finding)

pub returns-clause-counts : goal.returns-clause-counts
returns-clause-counts c =
    let s = c.args.case.now in
    let places = c.args.places.now in
    stable_by_counts s (set_of_places (market s) places) c.marks_of.ensures.case (is_placement s places c.marks_of.ensures.case c.requires) c.finding_on.result (returns-clause-stable c)
