use Rattle.std.proofs.Common.{◌∙◌, sym}
use Rattle.std.proofs.lemmas.Bool.{not-false}
use Rattle.rm_journal.proofs.Read.{swap-stops}
use Rattle.rm_journal.proofs.reading.read_outcome.Goals as goal

pub returns-in-Err-clause-stops : goal.returns-in-Err-clause-stops
returns-in-Err-clause-stops c =
    swap-stops c.args.case.now c.args.i c.args.row.now c.in-Err.fault
    (rw c.cell-answer.ensures at (sym c.eq.ensures ∙ c.if-eq.false))
    (rw c.cell-answer.ensures at (sym c.eq-2.ensures ∙ c.if-eq-2.false))
    (not-false _ (rw c.cell-answer.ensures at (sym c.ne.ensures ∙ c.if-ne.false)))
    (rw (c.cell.ensures, c.cell-2.ensures) at c.in-Err.ensures.stops)
