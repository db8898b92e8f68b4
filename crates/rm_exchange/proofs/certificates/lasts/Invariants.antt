use Rattle.std.proofs.Common.{◌≡◌, ℕ, ◌<◌, length, get_or, take, Option, All, IfSome}
use Rattle.rm_sets.specs.Sets.{IsIn}
use Rattle.rm_market.specs.Board.{contract_count, leaf_of}
use Rattle.rm_exchange.specs.RowsBelow.{IsLastAt}
use Rattle.rm_exchange.proofs.certificates.lasts.Given as goal

abbrev pub invariant-loop-i : goal.invariant-loop-i
invariant-loop-i l = record {
  long : length l.lasts.items ≡ length l.board.ranks;
  each : (leaf : ℕ) (d : Option ℕ) → leaf < length l.lasts.items → IsLastAt l.board (take l.i l.chosen) leaf (get_or l.lasts.items leaf d);
  all : (y : ℕ) → IsIn y (take l.i l.chosen) → leaf_of l.board y < length l.lasts.items;
  below : All (λ last. IfSome last (λ z. z < contract_count l.board)) l.lasts.items;
}
