use Rattle.rm_nation_laws.proofs.Policy.{policy_passes}
use Rattle.rm_nation_laws.proofs.policies_pass.Goals as goal

pub returns : goal.returns
returns c = policy_passes
