use Rattle.rm_report.specs.Open.{Holds}
use Rattle.rm_report.specs.Texts.{csv_text, placement_rows}
use Rattle.rm_report.proofs.placement.placement_text.Given as goal

abbrev pub invariant-loop-d : goal.invariant-loop-d
invariant-loop-d l = Holds l.writer (csv_text (placement_rows l.case l.places l.d))
