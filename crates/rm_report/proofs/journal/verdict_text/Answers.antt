use Rattle.rm_report.specs.Journal.{verdict_row, verdict_text}
use Rattle.rm_report.proofs.TextRows.{csv-one}
use Rattle.rm_report.proofs.journal.verdict_text.Goals as goal

pub returns : goal.returns
unfolding verdict_text
returns c = rw (csv-one (verdict_row c.args.case.now c.args.check)) (c.in_ok-text.ensures _ (c.in_ok-write_verdict.ensures _ c.in_ok-writer.ensures))
