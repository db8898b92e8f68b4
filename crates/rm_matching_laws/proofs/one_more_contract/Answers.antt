use Rattle.rm_matching_laws.proofs.PathIndependence.{cases_chosen-with_one}
use Rattle.rm_matching_laws.proofs.Tests.{outcome_is}
use Rattle.rm_matching_laws.proofs.one_more_contract.Goals as goal

pub returns : goal.returns
returns c = record { swaps = cases_chosen-with_one; outcome = outcome_is }
