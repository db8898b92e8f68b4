use Rattle.std.proofs.Common.{◌∙◌, sym, string_bytes}
use Rattle.csv.proofs.RecordFacts.{cut-length}
use Rattle.rm_table.proofs.packed_cells.PackedCells.len.Goals as goal

pub returns : goal.returns
returns c = rw (← c.self.view_is) (c.len.ensures ∙ c.self.inside.ends.ok.0 ∙ sym (cut-length 0 c.self.inside.ends.items (string_bytes c.self.inside.text)))
