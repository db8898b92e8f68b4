use Rattle.rm_case.proofs.OfferRows.{AreOffered}
use Rattle.rm_case.proofs.offers.Offers.read_rows.Given as goal

abbrev pub invariant-loop-i : goal.invariant-loop-i
invariant-loop-i l = AreOffered l.case l.table l.i l.rows.items l.contracts.items
