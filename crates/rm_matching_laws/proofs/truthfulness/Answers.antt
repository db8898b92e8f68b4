use Rattle.rm_matching_laws.proofs.EveryChoice.{every_choice}
use Rattle.rm_matching_laws.proofs.truthfulness.Goals as goal

pub returns : goal.returns
returns c n chosen w l a = (every_choice n chosen w l a).2
