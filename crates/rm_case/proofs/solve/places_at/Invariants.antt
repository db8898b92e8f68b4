use Rattle.std.proofs.Common.{◌≡◌, length, take, map, option_map}
use Rattle.rm_sets.specs.Sets.{below}
use Rattle.rm_market.specs.Board.{hospital_of}
use Rattle.rm_market.specs.Stable.{at}
use Rattle.rm_case.proofs.solve.places_at.Given as goal

abbrev pub invariant-loop-d : goal.invariant-loop-d
invariant-loop-d g l = record {
  long : length l.places ≡ l.doctors;
  done : take l.d l.places ≡ map (λ d. option_map (hospital_of l.board) (at l.desk.wishes d (g.H.Holder.held l.desk.holder))) (below l.d);
}
