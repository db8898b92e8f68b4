use Rattle.rm_case.proofs.ChoiceRows.{AreChosen}
use Rattle.rm_case.proofs.choices.Choices.read_rows.Given as goal

abbrev pub invariant-loop-i : goal.invariant-loop-i
invariant-loop-i l = AreChosen l.case l.table l.i l.rows.items l.hospitals.items
