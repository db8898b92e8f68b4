use Rattle.std.proofs.Common.{ℕ, List, ◌++◌, map, take}
use Rattle.rm_report.specs.Open.{Holds}
use Rattle.rm_report.specs.Report.{hospital_row}
use Rattle.rm_report.specs.Texts.{csv_text}
use Rattle.rm_report.proofs.report.write_prefecture.Given as goal

abbrev pub invariant-loop-i : goal.invariant-loop-i
invariant-loop-i l =
    (text : List ℕ) → Holds l.initial.writer text → Holds l.writer (text ++ csv_text (map (hospital_row l.report.case.now l.report.places.now l.q) (take l.i l.hospitals)))
