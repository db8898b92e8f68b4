use Rattle.std.proofs.Common.{◌∙◌, length}
use Rattle.rm_laminar.specs.Tree.{told}
use Rattle.rm_laminar.proofs.Told.{nodes-count}
use Rattle.rm_laminar.proofs.Tree.nodes.Goals as goal

pub returns : goal.returns
returns c = c.len.ensures ∙ c.self.inside.firsts.ok.0 ∙ rw (← c.self.view_is) (nodes-count (told (length c.self.inside.firsts.items) c.self.inside.chains) c.self.inside.chains c.self.inside.firsts.items c.self.invariant.0)
