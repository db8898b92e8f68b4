-- A region of one seat with two hospitals: its stable sets fill the seat of different hospitals, so what all stable sets share is told of
-- outermost nodes alone.
use Rattle.std.proofs.Common.{◌≡◌, ℕ, zero, suc, ◌<◌, List, [], ◌∷◌, true, length, pos, refl, arith, true≢false}
use Rattle.std.proofs.lemmas.List.Elements.{All-nil, All-cons}
use Rattle.rm_sets.specs.Sets.{has, IsSet}
use Rattle.rm_sets.proofs.Sets.{IsSet-all_below, IsSetBelow-all_below}
use Rattle.rm_market.proofs.OnLiterals.{market_on_literals}
use Rattle.rm_market.specs.Board.{IsFalling, count_at}
use Rattle.rm_market.specs.Market.{Market, IsMarket, solve, stable_sets, IsStableIn}
use Rattle.rm_market.specs.Ties.{by_rank}
use Rattle.rm_market.proofs.Small.{two}
use Rattle.rm_board_laws.specs.HospitalBoards.{hospital_board, group_nodes}
use Rattle.rm_board_laws.proofs.HospitalBoards.{accepted_markets, zeros_fall}
use Rattle.rm_board_laws.proofs.TieOrders.{rank_ties}
use Rattle.rm_plain_laws.proofs.ListsBelow.{lists_below}
use Rattle.rm_valuation_laws.specs.Order.{IsRoot}
use Rattle.rm_verdict_laws.proofs.Plain.{stable_test}

abbrev divided_ranks : List (List ℕ)
divided_ranks = (0 ∷ []) ∷ (1 ∷ []) ∷ (1 ∷ 0 ∷ []) ∷ []

abbrev divided_lists : List (List ℕ)
divided_lists = (2 ∷ 0 ∷ []) ∷ (1 ∷ 2 ∷ []) ∷ []

-- the first two hospitals have one seat between them, and the third has one: there each doctor stands where the other likes it better
abbrev pub divided : Market
divided =
    record {
      board = hospital_board divided_ranks (λ h. pos 0 ∷ []) (group_nodes ((0 ∷ 1 ∷ []) ∷ []) ((pos 0 ∷ []) ∷ [])) (by_rank divided_ranks);
      lists = divided_lists;
    }

divided_sets : (stable_sets divided ≡ (1 ∷ 3 ∷ []) ∷ (0 ∷ 2 ∷ []) ∷ []) × (solve divided ≡ 1 ∷ 3 ∷ [])
unfolding market_on_literals
divided_sets = (refl, refl)

-- the region, node 3, has one contract in both; the hospitals inside it, nodes 0 and 1, haven't as many in both; and the third hospital has.
-- The contracts of the first hospital are chosen as if there were no others, since they come first in tie order; but those of the second aren't
divided_counts :
    (count_at divided.board (1 ∷ 3 ∷ []) 3 ≡ 1) × (count_at divided.board (0 ∷ 2 ∷ []) 3 ≡ 1)
    × (count_at divided.board (1 ∷ 3 ∷ []) 0 ≡ 0) × (count_at divided.board (0 ∷ 2 ∷ []) 0 ≡ 1)
    × (count_at divided.board (1 ∷ 3 ∷ []) 1 ≡ 1) × (count_at divided.board (0 ∷ 2 ∷ []) 1 ≡ 0)
    × (count_at divided.board (1 ∷ 3 ∷ []) 2 ≡ 1) × (count_at divided.board (0 ∷ 2 ∷ []) 2 ≡ 1)
divided_counts = (refl, refl, refl, refl, refl, refl, refl, refl)

-- ---- a region inside another

-- a fourth hospital ranks the first doctor alone, who lists it last. It is in the region, and makes a region inside it with the first hospital
abbrev inner_ranks : List (List ℕ)
inner_ranks = (0 ∷ []) ∷ (1 ∷ []) ∷ (1 ∷ 0 ∷ []) ∷ (0 ∷ []) ∷ []

abbrev inner : Market
inner =
    record {
      board = hospital_board inner_ranks (λ h. pos 0 ∷ [])
          (group_nodes ((0 ∷ 3 ∷ []) ∷ (0 ∷ 1 ∷ 3 ∷ []) ∷ []) ((pos 0 ∷ []) ∷ (pos 0 ∷ []) ∷ [])) (by_rank inner_ranks);
      lists = (2 ∷ 0 ∷ 3 ∷ []) ∷ (1 ∷ 2 ∷ []) ∷ [];
    }

inner_sets : (stable_sets inner ≡ (1 ∷ 3 ∷ []) ∷ (0 ∷ 2 ∷ []) ∷ []) × (solve inner ≡ 1 ∷ 3 ∷ [])
unfolding market_on_literals
inner_sets = (refl, refl)

-- the outer region, node 5, has one contract in both; the inner one, node 4, has none in the one and one in the other
inner_counts :
    (count_at inner.board (1 ∷ 3 ∷ []) 5 ≡ 1) × (count_at inner.board (0 ∷ 2 ∷ []) 5 ≡ 1)
    × (count_at inner.board (1 ∷ 3 ∷ []) 4 ≡ 0) × (count_at inner.board (0 ∷ 2 ∷ []) 4 ≡ 1)
inner_counts = (refl, refl, refl, refl)

-- ---- the example of the page on definitions

-- its one stable set has one contract in the prefecture, node 2
two_counts : (stable_sets two ≡ (0 ∷ []) ∷ []) × (count_at two.board (0 ∷ []) 2 ≡ 1)
unfolding market_on_literals
two_counts = (refl, refl)

-- and the prefecture is the one outermost node
two_root : IsRoot two.board 2
unfolding market_on_literals
two_root zero lt = refl
two_root (suc zero) lt = refl
two_root (suc (suc zero)) lt = refl
two_root (suc (suc (suc k))) lt = absurd (omega arith)

not_first : ¬ IsRoot two.board 0
unfolding market_on_literals
not_first root = true≢false (root 2 (omega arith))

not_second : ¬ IsRoot two.board 1
unfolding market_on_literals
not_second root = true≢false (root 2 (omega arith))

-- ---- so it isn't so of every node

pub divided_is_market : IsMarket divided
unfolding market_on_literals
divided_is_market =
    accepted_markets divided_ranks (λ h. pos 0 ∷ []) ((0 ∷ 1 ∷ []) ∷ []) ((pos 0 ∷ []) ∷ []) (by_rank divided_ranks) divided_lists
    (lists_below 2 divided_ranks refl) (lists_below 3 divided_lists refl)
    (λ h lt. zeros_fall 1)
    (All-cons IsSet (0 ∷ 1 ∷ []) [] (IsSet-all_below 2 (λ k. true)) (All-nil IsSet)) refl
    (All-cons IsFalling (pos 0 ∷ []) [] (zeros_fall 1) (All-nil IsFalling))
    (rank_ties divided_ranks)

pub first_stable : IsStableIn divided (1 ∷ 3 ∷ [])
unfolding market_on_literals
first_stable = (stable_test divided (1 ∷ 3 ∷ []) divided_is_market (IsSetBelow-all_below 4 (λ x. has x (1 ∷ 3 ∷ [])))).0 refl

second_stable : IsStableIn divided (0 ∷ 2 ∷ [])
unfolding market_on_literals
second_stable = (stable_test divided (0 ∷ 2 ∷ []) divided_is_market (IsSetBelow-all_below 4 (λ x. has x (0 ∷ 2 ∷ [])))).0 refl

-- that each node has as many contracts in all stable sets
abbrev EachNodeFillsTheSame : Type 0
EachNodeFillsTheSame = (m : Market) (S T : List ℕ) (k : ℕ) → IsMarket m → IsStableIn m S → IsStableIn m T → k < length m.board.nodes → count_at m.board S k ≡ count_at m.board T k

not_each_node : ¬ EachNodeFillsTheSame
not_each_node all = none_or_one _ _ refl refl (all divided (1 ∷ 3 ∷ []) (0 ∷ 2 ∷ []) 0 divided_is_market first_stable second_stable (omega arith))
  where
    none_or_one : (a b : ℕ) → a ≡ 0 → b ≡ 1 → a ≡ b → ⊥
    none_or_one a b none one e = omega (arith, none, one, e)
