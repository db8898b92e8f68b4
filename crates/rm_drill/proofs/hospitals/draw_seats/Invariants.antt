use Rattle.std.proofs.Common.{◌≡◌, ◌+◌}
use Rattle.rm_drill.specs.Draws.{state_after}
use Rattle.rm_drill.specs.Hospitals.{capacities, targets}
use Rattle.rm_drill.proofs.hospitals.draw_seats.Given as goal

abbrev pub invariant-loop-k : goal.invariant-loop-k
invariant-loop-k l =
    (l.draws ≡ state_after l.seed (l.k + l.k)) × (l.capacities.items ≡ capacities l.seed l.k) × (l.targets.items ≡ targets l.seed l.k)
