use Rattle.rm_plain_laws.proofs.Stability.{plain_stability}
use Rattle.rm_plain_laws.proofs.stable_without_policy.Goals as goal

pub returns : goal.returns
returns c = plain_stability
