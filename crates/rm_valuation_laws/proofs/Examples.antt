-- Greedy addition, gains and losses on small markets, by computation.
use Rattle.std.proofs.Common.{◌≡◌, ℕ, List, [], ◌∷◌, true, pos, negsuc, refl}
use Rattle.rm_market.specs.Best.{is_better, values_of, swapped}
use Rattle.rm_market.specs.Board.{Board, worth}
use Rattle.rm_market.proofs.OnLiterals.{market_on_literals}
use Rattle.rm_market.proofs.Small.{costly, nested, west, full, dear}
use Rattle.rm_valuation_laws.specs.Choice.{greedy}
use Rattle.rm_valuation_laws.specs.Scores.{score}
use Rattle.rm_valuation_laws.specs.Changes.{gain, loss, swap_gain, swap_loss}

abbrev best : Board → List ℕ → List ℕ
best b X = greedy (values_of b).feasible (score (values_of b)) X

-- a second seat that costs one stays empty
seat_stays_empty : best costly.board (0 ∷ 1 ∷ []) ≡ 0 ∷ []
unfolding market_on_literals
seat_stays_empty = refl

gain_and_loss : (gain costly.board (0 ∷ []) 1 ≡ negsuc 0) × (loss costly.board (0 ∷ []) 0 ≡ pos 0)
gain_and_loss = (refl, refl)

-- a group of two hospitals inside their prefecture holds one
group_holds_one : best nested.board (0 ∷ 1 ∷ 2 ∷ []) ≡ 0 ∷ 2 ∷ []
unfolding market_on_literals
group_holds_one = refl

-- a first seat that is worth ten is filled first
both_regions : best west.board (0 ∷ 1 ∷ 2 ∷ []) ≡ 0 ∷ 2 ∷ []
unfolding market_on_literals
both_regions = refl

nobody : best full.board (0 ∷ []) ≡ []
unfolding market_on_literals
nobody = refl

-- the offer could be added, but the swap is better: worths 3, 4 and 5
in_its_place : worth dear.board (swapped (0 ∷ []) 1 0) ≡ pos 5
unfolding market_on_literals
in_its_place = refl

swap_wins : best dear.board (0 ∷ 1 ∷ []) ≡ 1 ∷ []
unfolding market_on_literals
swap_wins = refl

swap_gains_and_loses : (swap_gain dear.board (0 ∷ []) 1 0 ≡ pos 5) × (swap_loss dear.board (0 ∷ []) 1 0 ≡ pos 3)
swap_gains_and_loses = (refl, refl)

-- at equal worth the first in tie order, a set before its parts, and what is feasible before what isn't
ties_count : (is_better (values_of nested.board) (0 ∷ []) (1 ∷ []) ≡ true)
    × (is_better (values_of nested.board) (0 ∷ 2 ∷ []) (0 ∷ []) ≡ true)
    × (is_better (values_of nested.board) (0 ∷ []) (0 ∷ 1 ∷ []) ≡ true)
unfolding market_on_literals
ties_count = (refl, refl, refl)
