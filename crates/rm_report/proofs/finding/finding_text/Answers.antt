use Rattle.rm_report.specs.Texts.{finding_row, finding_text}
use Rattle.rm_report.proofs.TextRows.{csv-one}
use Rattle.rm_report.proofs.finding.finding_text.Goals as goal

pub returns : goal.returns
unfolding finding_text
returns c = rw (csv-one (finding_row c.args.case.now c.args.finding)) (c.in_ok-text.ensures _ (c.in_ok-write_finding.ensures _ c.in_ok-writer.ensures))
