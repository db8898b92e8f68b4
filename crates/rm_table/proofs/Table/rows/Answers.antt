use Rattle.std.proofs.Common.{◌∙◌, sym}
use Rattle.rm_table.proofs.CutLemmas.{cut-length}
use Rattle.rm_table.proofs.Table.rows.Goals as goal

pub returns : goal.returns
returns c = rw (← c.self.view_is) (c.len.ensures ∙ c.self.inside.ends.ok.0 ∙ sym (cut-length 0 c.self.inside.ends.items c.self.inside.cells))
