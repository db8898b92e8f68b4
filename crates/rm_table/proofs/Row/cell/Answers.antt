use Rattle.std.proofs.Common.{◌∙◌, sym, arith}
use Rattle.rm_table.proofs.CutLemmas.{cell-between}
use Rattle.rm_table.proofs.Row.cell.Goals as goal

pub returns : goal.returns
returns c =
    let r = c.self.inside in
    rw (← c.self.view_is) (c.get.ensures ∙ sym (cell-between r.start r.end r.cells.now c.args.j c.self.invariant.0 c.self.invariant.1 (omega arith)))
