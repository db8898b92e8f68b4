use Rattle.std.proofs.Common.{refl}
use Rattle.rm_transit.proofs.OneSeat.{one_distinct, pair_distinct}
use Rattle.rm_transit.proofs.tests.choices.Goals as goal

pub push-requires-clause-distinct : goal.push-requires-clause-distinct
push-requires-clause-distinct c = pair_distinct 2 0 refl

pub push-requires-2-clause-distinct : goal.push-requires-2-clause-distinct
push-requires-2-clause-distinct c = one_distinct 1
