use Rattle.rm_matching_laws.proofs.EveryChoice.{every_choice, runs_close_of}
use Rattle.rm_matching_laws.proofs.deferred_acceptance.Goals as goal

pub returns : goal.returns
returns c = record { runs = λ n chosen w l a. (every_choice n chosen w l a).0; closes = runs_close_of }
