use Rattle.rm_report.specs.Open.{Holds}
use Rattle.rm_report.specs.Texts.{csv_text}
use Rattle.rm_transit.specs.Texts.{transit_rows}
use Rattle.rm_transit.proofs.text.transit_text.Given as goal

abbrev pub invariant-loop-d : goal.invariant-loop-d
invariant-loop-d l = Holds l.writer (csv_text (transit_rows l.case l.marks l.d))
