-- The boards of a market are valuations.
use Rattle.std.proofs.Common.{◌↔◌, ◌<◌, ℕ, sym, subst}
use Rattle.rm_sets.specs.Sets.{IsIn}
use Rattle.rm_market.specs.Board.{Board, IsBoard, contract_count}
use Rattle.rm_market.specs.Best.{IsValuation, values_of}
use Rattle.rm_valuation_laws.specs.Changes.{IsConcaveBoard}
use Rattle.rm_valuation_laws.proofs.LaminarExchange.{board_laws}

pub concave_board : (doctors : ℕ) (b : Board) → IsBoard doctors b → IsConcaveBoard b
concave_board doctors b ok = record {
  laminar = ok.laminar;
  concave = ok.concave;
  ties_all = λ x. subst (λ n. IsIn x b.ties ↔ (x < n)) (sym ok.leaves) (ok.ties.all x);
}

pub market_board_laws : (doctors : ℕ) (b : Board) → IsBoard doctors b → IsValuation (contract_count b) (values_of b)
market_board_laws doctors b ok = subst (λ n. IsValuation n (values_of b)) ok.leaves (board_laws b (concave_board doctors b ok))
