use Rattle.std.specs.List.{IsDistinct}
use Rattle.rm_ranks.proofs.tests.pushes_lists.Goals as goal

pub push-requires-clause-distinct : goal.push-requires-clause-distinct
unfolding IsDistinct
push-requires-clause-distinct g c = (tt, tt)
