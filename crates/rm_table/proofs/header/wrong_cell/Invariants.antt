use Rattle.rm_table.proofs.HeaderLemmas.{Agrees}
use Rattle.rm_table.proofs.header.wrong_cell.Given as goal

abbrev pub invariant-loop-j : goal.invariant-loop-j
invariant-loop-j g l = Agrees l.wanted l.j (g.S.RowSource.stand l.source).row
