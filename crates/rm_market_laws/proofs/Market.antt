-- The laws of lawful choices, for the best subsets on a market's board.
use Rattle.std.proofs.Common.{◌≡◌, ℕ, ◌<◌, List, [], length, set, sym, subst, arith}
use Rattle.rm_market.specs.Board.{contract_count}
use Rattle.rm_market.specs.Best.{IsChoice, values_of, best_of}
use Rattle.rm_market.specs.Stable.{Wishes, IsStable, IsOptimal, IsOnlyOptimal, Takes}
use Rattle.rm_market.specs.Machine.{offered_so_far, closing}
use Rattle.rm_market.specs.Market.{Market, IsMarket, IsList, listed_contracts, wishes_of, Best, IsStableIn, IsOptimalIn, IsPlacementOf, replaced, solve}
use Rattle.rm_market.specs.Laws.{after, RunsWell}
use Rattle.rm_valuation_laws.proofs.Market.{market_board_laws}
use Rattle.rm_valuation_laws.proofs.Best.{choice_from_bests}
use Rattle.rm_valuation_laws.proofs.BestOf.{board_best}
use Rattle.rm_matching_laws.specs.Results.{RunsClose}
use Rattle.rm_matching_laws.proofs.Runs.{IsSetBelow-offered}
use Rattle.rm_matching_laws.proofs.EveryChoice.{lawful, every_choice, runs_close_of}
use Rattle.rm_matching_laws.proofs.Rounds.{closing_closes}
use Rattle.rm_market_laws.specs.Results.{ChoosesBest, HasPlacement, RunsWellIn, PlacesSameIn, IsTruthfulIn}
use Rattle.rm_market_laws.proofs.BestSets as sets
use Rattle.rm_market_laws.proofs.Wishes.{are_wishes, listed_long, IsListOf-contracts, wishes-replaced, IsMarket-replaced}

-- ---- best subsets as a choice

module _ (m : Market) (ok : IsMarket m) (C : List ℕ → List ℕ) (best : ChoosesBest m C) where
  pub choice : IsChoice (contract_count m.board) C
  choice = choice_from_bests (contract_count m.board) (values_of m.board) C (market_board_laws (length m.lists) m.board ok.board) best

  -- the best subsets have the same stable and optimal sets
  long : length (wishes_of m).owners ≡ contract_count m.board
  long = (are_wishes m ok).contracts

  pub stable_takes : (S : List ℕ) → IsStableIn m S → IsStable (Takes C) (wishes_of m) S
  stable_takes S s = sets.stable_takes (contract_count m.board) (values_of m.board) (wishes_of m) long C best S s

  pub optimal_takes : (S : List ℕ) → IsOptimalIn m S → IsOptimal (Takes C) (wishes_of m) S
  optimal_takes S o = sets.optimal_takes (contract_count m.board) (values_of m.board) (wishes_of m) long C best S o

  pub placement_in : (S : List ℕ) → IsOnlyOptimal (Takes C) (wishes_of m) S → IsPlacementOf m S
  placement_in S o = sets.only_optimal_best (contract_count m.board) (values_of m.board) (wishes_of m) long C best S o

  -- ---- runs

  runs : RunsWell C (wishes_of m)
  runs = (every_choice (contract_count m.board) C (wishes_of m) choice (are_wishes m ok)).0

  pub runs_well_in : RunsWellIn m C
  runs_well_in = record {
    held = λ ds.
        let w : Wishes = wishes_of m in
        sets.taken (contract_count m.board) (values_of m.board) w long C best (offered_so_far w (after C w ds)) (after C w ds).held
        (IsSetBelow-offered C w (lawful (contract_count m.board) C w choice (are_wishes m ok)) (after C w ds))
        (sym (runs.held ds));
    refused = λ ds x T i out t. runs.refused ds x T i out (stable_takes T t);
    closed = λ ds closed. placement_in (after C (wishes_of m) ds).held (runs.closed ds closed);
  }

  pub has_placement : HasPlacement m C
  has_placement =
      let r = runs_close_of (contract_count m.board) C (wishes_of m) choice (are_wishes m ok) [] in
      (r.0, r.1, placement_in (after C (wishes_of m) r.0).held (runs.closed r.0 r.1))

  pub runs_close_in : RunsClose C (wishes_of m)
  runs_close_in = runs_close_of (contract_count m.board) C (wishes_of m) choice (are_wishes m ok)

-- ---- the market

pub plain_best : (m : Market) → IsMarket m → ChoosesBest m (best_of (values_of m.board))
plain_best m ok X x = board_best (length m.lists) m.board X ok.board x

pub placement_exists : (m : Market) → IsMarket m → (S : List ℕ) × IsPlacementOf m S
placement_exists m ok =
    let h = has_placement m ok (best_of (values_of m.board)) (plain_best m ok) in
    ((after (best_of (values_of m.board)) (wishes_of m) h.0).held, h.2)

pub same_in : (m : Market) → IsMarket m → PlacesSameIn m
same_in m ok S T d s t =
    let C : List ℕ → List ℕ = best_of (values_of m.board) in
    let b : ChoosesBest m C = plain_best m ok in
    (every_choice (contract_count m.board) C (wishes_of m) (choice m ok C b) (are_wishes m ok)).1 S T d (stable_takes m ok C b S s) (stable_takes m ok C b T t)

module _ (m : Market) (ok : IsMarket m) where
  replaced_optimal :
      (d : ℕ) (list T : List ℕ) → IsList m.board list → IsPlacementOf (replaced m d list) T →
      IsOptimal (Takes (best_of (values_of m.board))) (record (wishes_of m) { listed = set (wishes_of m).listed d (listed_contracts m.board.ranks d list) }) T
  replaced_optimal d list T l t =
      let ok' : IsMarket (replaced m d list) = IsMarket-replaced m ok d list l in
      subst (λ w. IsOptimal (Takes (best_of (values_of m.board))) w T) (wishes-replaced m d list)
      (optimal_takes (replaced m d list) ok' (best_of (values_of m.board)) (plain_best (replaced m d list) ok') T t.optimal)

  plain_optimal : (S : List ℕ) → IsPlacementOf m S → IsOptimal (Takes (best_of (values_of m.board))) (wishes_of m) S
  plain_optimal S s = optimal_takes m ok (best_of (values_of m.board)) (plain_best m ok) S s.optimal

  low : (d : ℕ) → d < length m.lists → d < length (wishes_of m).listed
  low d lt = let e : length (wishes_of m).listed ≡ length m.lists = listed_long m ok in omega arith

  pub truthful_in : IsTruthfulIn m
  truthful_in = record {
    exists = λ d list l. placement_exists (replaced m d list) (IsMarket-replaced m ok d list l);
    no_gain = λ d list S T lt l s t.
        (every_choice (contract_count m.board) (best_of (values_of m.board)) (wishes_of m) (choice m ok (best_of (values_of m.board)) (plain_best m ok)) (are_wishes m ok)).2
        d (listed_contracts m.board.ranks d list) S T (low d lt) (IsListOf-contracts m ok d list l) (plain_optimal S s) (replaced_optimal d list T l t);
  }

-- the plain program by turns ends in the placement
pub solve_is : (m : Market) → IsMarket m → IsPlacementOf m (solve m)
unfolding solve
solve_is m ok =
    let C : List ℕ → List ℕ = best_of (values_of m.board) in
    let b : ChoosesBest m C = plain_best m ok in
    (runs_well_in m ok C b).closed (closing (wishes_of m)) (closing_closes C (wishes_of m) (lawful (contract_count m.board) C (wishes_of m) (choice m ok C b) (are_wishes m ok)))
