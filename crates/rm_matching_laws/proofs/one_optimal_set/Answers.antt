use Rattle.rm_matching_laws.proofs.EveryChoice.{one_optimal_of}
use Rattle.rm_matching_laws.proofs.Stable.{optimal_is_one}
use Rattle.rm_matching_laws.proofs.one_optimal_set.Goals as goal

pub returns : goal.returns
returns c = record { one = optimal_is_one; exists = one_optimal_of }
