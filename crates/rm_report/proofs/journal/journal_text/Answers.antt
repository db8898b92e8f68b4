use Rattle.std.proofs.lemmas.List.{take_all}
use Rattle.rm_market.specs.declared.Outcome.TheVariants as out
use Rattle.rm_journal_laws.specs.declared.Entry.{Entry}
use Rattle.rm_report.specs.Journal.{entry_row, journal_header, journal_text}
use Rattle.rm_report.proofs.TextRows.{csv-one, item-more}
use Rattle.rm_report.proofs.journal.journal_text.Goals as goal

pub loop-i-init : goal.loop-i-init
loop-i-init c = rw (csv-one journal_header) (c.in_ok-write_row.ensures _ c.in_ok-writer.ensures)

pub loop-i-preserved : goal.loop-i-preserved
loop-i-preserved c =
    let past_end : Entry = record { x = 0; outcome = out.Kept } in
    rw (item-more journal_header (entry_row c.args.case.now) c.args.entries.now c.loop-i.i past_end c.loop-i-test.true) (c.in_ok-write_entry.ensures _ c.loop-i.invariant)

pub returns : goal.returns
unfolding journal_text
returns c = rw (take_all c.loop-i.i c.args.entries.now c.loop-i-test.false) at (c.in_ok-text.ensures _ c.loop-i.invariant)
