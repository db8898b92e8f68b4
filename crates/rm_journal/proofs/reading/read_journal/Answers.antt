use Rattle.std.proofs.Common.{◌∙◌, sym}
use Rattle.rm_journal.specs.Reading.{journal_in}
use Rattle.rm_journal.proofs.reading.read_journal.Goals as goal

pub returns-in-None-clause-reads : goal.returns-in-None-clause-reads
unfolding journal_in
returns-in-None-clause-reads c = rw (sym c.wrong_cell.ensures ∙ c.in-None.is) c.read_rows.ensures.reads

pub returns-in-None-clause-stops : goal.returns-in-None-clause-stops
returns-in-None-clause-stops c = rw (sym c.wrong_cell.ensures ∙ c.in-None.is) c.read_rows.ensures.stops
