use Rattle.std.proofs.Common.{◌≡◌, ℕ, ◌<◌, length, get_or}
use Rattle.rm_market.specs.Board.{contract_count}
use Rattle.rm_market.specs.declared.CertRow.{CertRow}
use Rattle.rm_exchange.specs.RowsBelow.{IsRowBelow, HasOutsBelow}
use Rattle.rm_exchange.proofs.certificates.first_rows.Given as goal

abbrev pub invariant-loop-i : goal.invariant-loop-i
invariant-loop-i l = record {
  long : length l.rows.items ≡ l.i;
  each : (k : ℕ) (d : CertRow) → k < l.i → IsRowBelow l.board l.chosen 0 (get_or l.offered k 0) (get_or l.rows.items k d);
  outs : HasOutsBelow (contract_count l.board) l.rows.items;
}
