use Rattle.std.proofs.Common.{◌∷◌, take, map}
use Rattle.rm_report.specs.Open.{Holds}
use Rattle.rm_report.specs.Texts.{csv_text, certificate_header, certificate_row}
use Rattle.rm_report.proofs.certificate.certificate_text.Given as goal

abbrev pub invariant-loop-row : goal.invariant-loop-row
invariant-loop-row l = Holds l.writer (csv_text (certificate_header ∷ map (certificate_row l.case) (take l.row-index l.rows)))
