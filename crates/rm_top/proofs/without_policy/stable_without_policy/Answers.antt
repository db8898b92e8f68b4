use Rattle.rm_top.proofs.WithoutPolicy.{no_file, without_policy}
use Rattle.rm_top.proofs.without_policy.stable_without_policy.Goals as goal

pub returns : goal.returns
returns c = record { none = no_file; stable = without_policy }
