use Rattle.std.proofs.Common.{◌∙◌, ap, length}
use Rattle.rm_measure.proofs.Sizes.{nodes-alone}
use Rattle.rm_measure.proofs.boards.flat_tree.Goals as goal

pub returns-in-Ok-clause-nodes : goal.returns-in-Ok-clause-nodes
returns-in-Ok-clause-nodes c = nodes-alone c.in-Ok.tree _ c.in-Ok.ensures.1 ∙ c.len.ensures.count ∙ ap length c.hospitals.ensures.hospitals
