use Rattle.std.proofs.Common.{◌≡◌, ℕ, List, length}
use Rattle.rm_market.specs.Board.{contract_count}
use Rattle.rm_valuation.specs.Counts.{AreCounts}
use Rattle.rm_exchange.specs.Counted.{IsChosen}
use Rattle.rm_exchange.specs.RowsBelow.{AreLasts, AreRowsBelow, HasOutsBelow}
use Rattle.rm_exchange.proofs.certificates.try_leaves.Given as goal

abbrev pub invariant-loop-leaf : goal.invariant-loop-leaf
invariant-loop-leaf l = record {
  nodes : length l.counts ≡ length l.board.nodes;
  long : length l.rows ≡ length l.offered;
  outs : HasOutsBelow (contract_count l.board) l.rows;
  rows : (S : List ℕ) → IsChosen l.board S → AreCounts l.board S l.initial.counts → AreLasts l.board S l.lasts → AreRowsBelow l.board S 0 l.offered l.initial.rows →
      AreCounts l.board S l.counts × AreRowsBelow l.board S l.leaf l.offered l.rows;
}
