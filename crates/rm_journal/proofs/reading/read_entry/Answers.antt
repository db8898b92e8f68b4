use Rattle.rm_journal.proofs.Read.{answer-stops, offer-stops}
use Rattle.rm_journal.proofs.reading.read_entry.Goals as goal

pub returns-in-Err-clause-stops : goal.returns-in-Err-clause-stops
returns-in-Err-clause-stops c =
    offer-stops c.args.case.now c.args.i c.args.row.now c.in-Err.fault (rw (c.cell.ensures, c.cell-2.ensures) at c.in-Err.ensures.stops)

pub returns-in-Err-read_outcome-clause-stops : goal.returns-in-Err-read_outcome-clause-stops
returns-in-Err-read_outcome-clause-stops c =
    answer-stops c.args.case.now c.args.i c.args.row.now (rw (c.cell.ensures, c.cell-2.ensures) at c.in-Ok.ensures.passes) c.in-Err-read_outcome.fault c.in-Err-read_outcome.ensures.stops
