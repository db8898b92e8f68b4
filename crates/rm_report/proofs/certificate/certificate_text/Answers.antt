use Rattle.std.proofs.Common.{false, None}
use Rattle.std.proofs.lemmas.List.{take_all}
use Rattle.rm_market.specs.declared.CertRow.{CertRow}
use Rattle.rm_report.specs.Texts.{certificate_text, certificate_header, certificate_row}
use Rattle.rm_report.proofs.TextRows.{csv-one, item-more}
use Rattle.rm_report.proofs.certificate.certificate_text.Goals as goal

pub loop-row-init : goal.loop-row-init
loop-row-init c = rw (csv-one certificate_header) (c.in_ok-write_header.ensures _ c.in_ok-writer.ensures)

pub loop-row-preserved : goal.loop-row-preserved
loop-row-preserved c =
    let past_end : CertRow = record { contract = 0; kept = false; change = None; full = None; swap = None } in
    rw (item-more certificate_header (certificate_row c.args.case.now) c.args.rows.now c.loop-row.row-index past_end c.loop-row-test.true) (c.in_ok-write_printed.ensures _ c.loop-row.invariant)

pub returns : goal.returns
unfolding certificate_text
returns c = rw (take_all c.loop-row.row-index c.args.rows.now c.loop-row-test.false) at (c.in_ok-text.ensures _ c.loop-row.invariant)
