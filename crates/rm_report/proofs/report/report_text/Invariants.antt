use Rattle.rm_report.specs.Open.{Holds}
use Rattle.rm_report.specs.Report.{report_rows}
use Rattle.rm_report.specs.Texts.{csv_text}
use Rattle.rm_report.proofs.report.report_text.Given as goal

abbrev pub invariant-loop-q : goal.invariant-loop-q
invariant-loop-q l = Holds l.writer (csv_text (report_rows l.report.case.now l.report.places.now l.q))
