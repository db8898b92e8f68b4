-- The rows of a certificate say what holds.
use Rattle.std.proofs.Common.{◌≡◌, ℕ, ◌<◌, List, [], ◌∷◌, true, false, refl, inl, inr, ⊎_elim}
use Rattle.rm_sets.specs.Sets.{has, IsIn, IsSetBelow}
use Rattle.rm_sets.proofs.Sets.{IsIn-here, IsIn-later, cases_has, not_both}
use Rattle.rm_market.specs.Board.{Board, IsBoard, contract_count, is_feasible}
use Rattle.rm_market.specs.Best.{values_of}
use Rattle.rm_market.specs.Certificate.{kept_row, refused_row, certificate}
use Rattle.rm_valuation_laws.proofs.Market.{concave_board, market_board_laws}
use Rattle.rm_verdict_laws.specs.Rows.{IsKeptRow, IsRefusedRow, AreRowsOf}
use Rattle.rm_verdict_laws.proofs.Full.{innermost_found, some_innermost, full_node}
use Rattle.rm_verdict_laws.proofs.BestSwap.{swap_cell}

kept_is : (b : Board) (S : List ℕ) (x : ℕ) → IsIn x S → IsKeptRow b S x (kept_row (values_of b) S x)
kept_is b S x i = record { member = i; contract = refl; kept = refl; change = refl; full = refl; swap = refl }

refused_is : (doctors : ℕ) (b : Board) (S : List ℕ) (x : ℕ) → IsBoard doctors b → IsSetBelow (contract_count b) S → is_feasible b S ≡ true → x < contract_count b → has x S ≡ false →
    IsRefusedRow b S x (refused_row b S x)
refused_is doctors b S x ok sS f lt out = record {
  outside = λ i. not_both (has x S) i out;
  contract = refl;
  kept = refl;
  fits = λ t. (rw t refl, rw t refl);
  full = λ cant.
      let node = full_node b S x f out cant in
      let k = some_innermost b S x node.0 node.1 in
      (rw cant refl, (k.0, rw cant k.1, innermost_found b S x k.0 (concave_board doctors b ok) k.1));
  swap = swap_cell (contract_count b) (values_of b) S x (market_board_laws doctors b ok) sS lt out;
}

pub rows_say : (doctors : ℕ) (b : Board) (S offers : List ℕ) → IsBoard doctors b → IsSetBelow (contract_count b) S → is_feasible b S ≡ true → ((x : ℕ) → IsIn x offers → x < contract_count b) →
    AreRowsOf b S offers (certificate b offers S)
unfolding certificate
rows_say doctors b S [] ok sS f below = tt
rows_say doctors b S (x ∷ offers) ok sS f below = (
  ⊎_elim
      (λ i. inl (rw i (kept_is b S x i)))
      (λ out. inr (rw out (refused_is doctors b S x ok sS f (below x (IsIn-here x offers)) out)))
      (cases_has x S),
  rows_say doctors b S offers ok sS f (λ y i. below y (IsIn-later y x offers i)),
)
