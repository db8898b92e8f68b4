use Rattle.std.proofs.Common.{◌≡◌, ◌≤◌, length, get_or, take, filter, ltb}
use Rattle.rm_market.specs.Board.{hospital_of}
use Rattle.rm_flexible.proofs.offers.write_kept.Given as goal

abbrev pub invariant-loop-i : goal.invariant-loop-i
invariant-loop-i l = record {
  long : length l.list ≡ length l.initial.list;
  within : l.count ≤ l.i;
  written : take l.count l.list ≡ filter (λ x. ltb (get_or l.counts (hospital_of l.board x) 0) (get_or l.marks x 0)) (take l.i l.offered);
}
