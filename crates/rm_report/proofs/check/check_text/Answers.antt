use Rattle.std.proofs.Common.{◌∙◌, ap}
use Rattle.rm_report.specs.Texts.{check_text}
use Rattle.rm_report.proofs.Lines.{no-line, line-more}
use Rattle.rm_report.proofs.check.check_text.Goals as goal

pub returns : goal.returns
unfolding check_text
returns c =
    let kind = line-more _ _ _ _ (no-line _ c.new-text.ensures.bytes) c.in_ok-add_line.ensures in
    let ties = line-more _ _ _ _ kind c.in_ok-add_line-2.ensures in
    let hospitals = line-more _ _ _ _ ties c.in_ok-add_count.ensures in
    let doctors = line-more _ _ _ _ hospitals c.in_ok-add_count-2.ensures in
    let contracts = line-more _ _ _ _ doctors c.in_ok-add_count-3.ensures in
    let listed = line-more _ _ _ _ contracts c.in_ok-add_count-4.ensures in
    let nodes = line-more _ _ _ _ listed c.in_ok-add_count-5.ensures in
    let depth = line-more _ _ _ _ nodes c.in_ok-add_count-6.ensures in
    rw (c.kind_word.ensures, c.kind.ensures, c.policy.ensures.policy, c.ties_word.ensures, c.ties.ensures, c.policy-2.ensures.policy, c.len.ensures.count, c.hospitals.ensures.hospitals, c.roster.ensures.roster, c.len-2.ensures.count, c.doctors.ensures.doctors, c.roster-2.ensures.roster, c.contracts.ensures, c.board.ensures.board, c.listed_count.ensures, c.node_count.ensures, c.depth.ensures)
    at (ap (λ v. v.items) c.into_bytes.ensures.value ∙ depth.is)
