use Rattle.std.proofs.Common.{◌≡◌, ◌<◌, ℕ, length, get_or}
use Rattle.rm_sets.specs.Sets.{below}
use Rattle.rm_market.specs.Board.{leaf_of, count_at}
use Rattle.rm_exchange.proofs.leaf.contracts_at.Given as goal

abbrev pub invariant-loop-x : goal.invariant-loop-x
invariant-loop-x l = record {
  wide : length l.counts.items ≡ length l.board.ranks;
  counts : (h : ℕ) → h < length l.board.ranks → get_or l.counts.items h 0 ≡ count_at l.board (below l.x) h;
  leaves : (x : ℕ) → x < l.x → leaf_of l.board x < length l.board.ranks;
}
