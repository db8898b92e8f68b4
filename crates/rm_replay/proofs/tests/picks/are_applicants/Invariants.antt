use Rattle.std.proofs.Common.{◌<◌, ◌+◌, ℕ, IsTrue, get_or}
use Rattle.std.specs.List.{list_any}
use Rattle.rm_market.specs.Board.{contract_count}
use Rattle.rm_market.specs.Flexible.{is_seat_of}
use Rattle.rm_replay.proofs.tests.picks.are_applicants.Given as goal

abbrev pub invariant-loop-i : goal.invariant-loop-i
invariant-loop-i l = record {
  below : (k : ℕ) → k < l.i → get_or l.contracts k 0 < contract_count l.board;
  ascending : (k : ℕ) → k + 1 < l.i → get_or l.contracts k 0 < get_or l.contracts (k + 1) 0;
  inside : (k : ℕ) → k < l.i → IsTrue (list_any (is_seat_of l.board (get_or l.contracts k 0)) l.region.seats);
}
