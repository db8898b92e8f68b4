use Rattle.rm_flexible_laws.proofs.SameOptimal.{same_optimal, flexible_runs_end}
use Rattle.rm_flexible_laws.proofs.same_optimal_placements.Goals as goal

pub returns : goal.returns
returns c = record { same = same_optimal; ends = flexible_runs_end }
