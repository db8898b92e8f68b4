use Rattle.std.proofs.Common.{◌∙◌, length}
use Rattle.rm_laminar.specs.Tree.{told}
use Rattle.rm_laminar.proofs.Told.{kept-depth}
use Rattle.rm_laminar.proofs.Tree.depth.Goals as goal

pub depth_of-requires-clause-few : goal.depth_of-requires-clause-few
depth_of-requires-clause-few c = rw c.self.invariant.0.built.each_hospital c.self.invariant.0.groups.few_hospitals

pub depth_of-requires-clause-shallow : goal.depth_of-requires-clause-shallow
depth_of-requires-clause-shallow c = λ h lt. c.self.invariant.0.built.shallow h (rw c.self.invariant.0.built.each_hospital at lt)

pub returns : goal.returns
returns c = c.depth_of.ensures ∙ rw (← c.self.view_is) (kept-depth (told (length c.self.inside.firsts.items) c.self.inside.chains) c.self.inside.chains c.self.inside.firsts.items c.self.invariant.0)
