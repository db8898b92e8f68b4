use Rattle.std.proofs.Common.{◌∙◌, sym, arith}
use Rattle.std.proofs.lemmas.Bool.{not-true, not-false}
use Rattle.rm_table.proofs.HeaderLemmas.{header-stop, header-more, header-end}
use Rattle.rm_table.proofs.header.wrong_cell.Goals as goal

pub returns-then-ne : goal.returns-then-ne
returns-then-ne g c =
    let differs = not-true _ (sym c.ne.ensures ∙ c.if-ne.true) in
    header-stop c.args.wanted.now c.loop-j.j _ (g.S.RowSource.stand c.args.source.now).row c.loop-j.invariant c.loop-j-test.true (rw c.cell.ensures at differs)

pub loop-j-preserved : goal.loop-j-preserved
loop-j-preserved g c =
    let same = not-false _ (sym c.ne.ensures ∙ c.if-ne.false) in
    header-more c.args.wanted.now c.loop-j.j _ (g.S.RowSource.stand c.args.source.now).row c.loop-j.invariant c.loop-j-test.true (rw c.cell.ensures at same)

pub returns : goal.returns
returns g c = header-end c.args.wanted.now c.loop-j.j (g.S.RowSource.stand c.args.source.now).row c.loop-j.invariant (omega arith)
