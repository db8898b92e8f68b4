use Rattle.std.specs.List.{IsDistinct}
use Rattle.rm_ranks.proofs.tests.builds_and_finds.Goals as goal

pub with-requires-clause-distinct : goal.with-requires-clause-distinct
unfolding IsDistinct
with-requires-clause-distinct g c = (tt, tt)
