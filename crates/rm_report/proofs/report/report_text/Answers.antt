use Rattle.std.proofs.Common.{◌≡◌, length, arith}
use Rattle.rm_report.specs.Report.{country_row, prefecture_text, report_header, report_rows}
use Rattle.rm_report.proofs.TextRows.{csv-more, csv-one, prefecture-more}
use Rattle.rm_report.proofs.report.report_text.Goals as goal

pub loop-q-init : goal.loop-q-init
loop-q-init c = rw (csv-one report_header) (c.in_ok-write_header.ensures _ c.in_ok-writer.ensures)

pub loop-q-preserved : goal.loop-q-preserved
loop-q-preserved c =
    rw (prefecture-more c.args.report.now.case.now c.args.report.now.places.now c.loop-q.q) (c.in_ok-write_prefecture.ensures _ c.loop-q.invariant)

pub returns : goal.returns
unfolding prefecture_text
returns c =
    let case = c.args.report.now.case.now in
    let places = c.args.report.now.places.now in
    let ended = rw (c.len-q-end.ensures.count, c.prefectures.ensures.prefectures, c.roster.ensures.roster) at c.loop-q-test.false in
    let within = rw (c.len-q-end.ensures.count, c.prefectures.ensures.prefectures, c.roster.ensures.roster) at c.loop-q.auto.q-end in
    let all : c.loop-q.q ≡ length case.roster.prefectures = omega (arith, ended, within) in
    rw (← all, csv-more (report_rows case places c.loop-q.q) (country_row case places)) (c.in_ok-text.ensures _ (c.in_ok-write_country.ensures _ c.loop-q.invariant))
