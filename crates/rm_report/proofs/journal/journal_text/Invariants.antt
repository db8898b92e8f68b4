use Rattle.std.proofs.Common.{◌∷◌, map, take}
use Rattle.rm_report.specs.Journal.{entry_row, journal_header}
use Rattle.rm_report.specs.Open.{Holds}
use Rattle.rm_report.specs.Texts.{csv_text}
use Rattle.rm_report.proofs.journal.journal_text.Given as goal

abbrev pub invariant-loop-i : goal.invariant-loop-i
invariant-loop-i l = Holds l.writer (csv_text (journal_header ∷ map (entry_row l.case) (take l.i l.entries)))
