use Rattle.std.proofs.Common.{refl}
use Rattle.rm_rounds.proofs.OnePost.{pair_distinct}
use Rattle.rm_rounds.proofs.tests.choices.Goals as goal

pub push-requires-clause-distinct : goal.push-requires-clause-distinct
push-requires-clause-distinct c = pair_distinct 2 1 refl

pub push-requires-2-clause-distinct : goal.push-requires-2-clause-distinct
push-requires-2-clause-distinct c = pair_distinct 3 0 refl
