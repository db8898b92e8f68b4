use Rattle.std.proofs.Common.{◌≡◌, ℕ, ◌+◌, ◌<◌, ◌≤◌, List, length, get_or, Some}
use Rattle.rm_market.specs.Board.{contract_count}
use Rattle.rm_market.specs.declared.CertRow.{CertRow}
use Rattle.rm_exchange.specs.Counted.{IsTakenOut}
use Rattle.rm_exchange.specs.RowsBelow.{IsLastAt, IsRowBelow, AreRowsBelow, HasOutsBelow}
use Rattle.rm_exchange.proofs.certificates.try_swaps.Given as goal

abbrev pub invariant-loop-i : goal.invariant-loop-i
invariant-loop-i l = record {
  long : length l.rows ≡ length l.offered;
  outs : HasOutsBelow (contract_count l.board) l.rows;
  each : (S : List ℕ) (leaf : ℕ) → IsTakenOut l.board S l.z l.counts l.loss → IsLastAt l.board S leaf (Some l.z) → AreRowsBelow l.board S leaf l.offered l.initial.rows →
      ((k : ℕ) (d : CertRow) → k < l.i → IsRowBelow l.board S (leaf + 1) (get_or l.offered k 0) (get_or l.rows k d))
      × ((k : ℕ) (d : CertRow) → l.i ≤ k → k < length l.offered → IsRowBelow l.board S leaf (get_or l.offered k 0) (get_or l.rows k d));
}
