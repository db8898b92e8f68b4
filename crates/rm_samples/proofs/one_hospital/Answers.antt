use Rattle.std.proofs.Common.{◌∙◌, sym}
use Rattle.rm_samples.proofs.OneHospital.{one_board}
use Rattle.rm_samples.proofs.one_hospital.Goals as goal

pub returns : goal.returns
returns c =
    one_board _ _ _ _ c.in-Ok.board c.in-Ok.ensures.1 c.in-Ok.ensures.2 c.len-hospitals.ensures.distinct c.in_ok-ranks.ensures.below (c.in_ok-ranks.ensures.one ∙ sym c.in_ok-steps.ensures.one) c.in_ok-steps.ensures.steps c.in_ok-tree.ensures.groups
