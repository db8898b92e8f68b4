-- Answers that other procedures would give on small markets. None of them is the best subset, or the optimal set, by the definitions.
use Rattle.std.proofs.Common.{◌≡◌, ℕ, ◌<◌, List, [], ◌∷◌, true, false, Some, None, refl, sym, ap, ◌∙◌, arith}
use Rattle.std.specs.List.{list_all}
use Rattle.std.specs.Prelude.{length}
use Rattle.rm_sets.specs.Sets.{has, with_one, union}
use Rattle.rm_sets.proofs.Sets.{IsSet-nil, IsSet-union, not_both}
use Rattle.rm_sets.proofs.Search.{from_list_all}
use Rattle.rm_market.proofs.OnLiterals.{market_on_literals}
use Rattle.rm_market.specs.Best.{Values, values_of, is_better, IsBest}
use Rattle.rm_market.specs.Stable.{at, wants, prefers_place}
use Rattle.rm_market.specs.Market.{Market, solve, optimal_sets, stable_sets, is_stable, places_of, wishes_of, replaced, IsStableIn}
use Rattle.rm_market.proofs.Small.{two, costly, nested, wide, crossed, second_choice}

-- a set that is worse than a subset of X isn't the best one of X; the subset is a list of contracts, put in order by `union []`
not_best : (v : Values) (X S T : List ℕ) → list_all (λ x. has x X) (union [] T) ≡ true → is_better v (union [] T) S ≡ true → is_better v S (union [] T) ≡ false → ¬ IsBest v X S
not_best v X S T inside better worse best =
    not_both (is_better v S (union [] T))
    (best.beats (union [] T) (IsSet-union [] T IsSet-nil) (from_list_all (λ x. has x X) (union [] T) inside) (λ same. not_both (is_better v S (union [] T)) (ap (λ U. is_better v U (union [] T)) (sym same) ∙ ap (is_better v (union [] T)) same ∙ better) worse))
    worse

-- a set to which a contract can be added, or put in another's place, for the better isn't stable where that contract is wanted
not_stable : (m : Market) (S : List ℕ) (x : ℕ) → x < length (wishes_of m).owners → wants (wishes_of m) S x ≡ true → ¬ IsBest (values_of m.board) (with_one S x) S → ¬ IsStableIn m S
not_stable m S x lt wanted worse stable = worse (stable.unblocked x lt wanted)

-- ---- to refuse applicants above the targets though the region's cap has room

abbrev ten : List ℕ
ten = 0 ∷ 1 ∷ 2 ∷ 3 ∷ 4 ∷ 5 ∷ 6 ∷ 7 ∷ 8 ∷ 9 ∷ []

-- three at the first hospital, and five of its seven applicants at the second one
abbrev up_to_targets_alone : List ℕ
up_to_targets_alone = 0 ∷ 1 ∷ 2 ∷ 3 ∷ 4 ∷ 5 ∷ 6 ∷ 7 ∷ []

targets_are_no_caps : ¬ IsBest (values_of wide.board) ten up_to_targets_alone
unfolding market_on_literals
targets_are_no_caps = not_best (values_of wide.board) ten up_to_targets_alone ten refl refl refl

targets_leave_doctors_out : ¬ IsStableIn wide up_to_targets_alone
unfolding market_on_literals
targets_leave_doctors_out = not_stable wide up_to_targets_alone 8 (omega arith) refl (not_best (values_of wide.board) (with_one up_to_targets_alone 8) up_to_targets_alone (with_one up_to_targets_alone 8) refl refl refl)

-- ---- to accept at once and for good

-- with the first doctor at the second hospital, the second doctor and the first hospital block
first_come : ¬ IsStableIn two (2 ∷ [])
unfolding market_on_literals
first_come = not_stable two (2 ∷ []) 1 (omega arith) refl (not_best (values_of two.board) (1 ∷ 2 ∷ []) (2 ∷ []) (1 ∷ []) refl refl refl)

-- with the second doctor at the first hospital, the first doctor, whom it ranks above him, blocks
both_at_once : ¬ IsStableIn two (1 ∷ [])
unfolding market_on_literals
both_at_once = not_stable two (1 ∷ []) 0 (omega arith) refl (not_best (values_of two.board) (0 ∷ 1 ∷ []) (1 ∷ []) (0 ∷ []) refl refl refl)

neither_is_optimal : (optimal_sets two ≡ (0 ∷ []) ∷ []) × (is_stable two (2 ∷ []) ≡ false) × (is_stable two (1 ∷ []) ≡ false)
unfolding market_on_literals
neither_is_optimal = (refl, refl, refl)

-- ---- to give the placement that is best for the hospitals

-- it is stable, but the other stable set gives each doctor the hospital that he likes better
best_for_hospitals : (stable_sets crossed ≡ (1 ∷ 3 ∷ []) ∷ (0 ∷ 2 ∷ []) ∷ [])
    × (places_of crossed (0 ∷ 2 ∷ []) ≡ Some 1 ∷ Some 0 ∷ [])
    × (prefers_place (wishes_of crossed) 0 (at (wishes_of crossed) 0 (1 ∷ 3 ∷ [])) (at (wishes_of crossed) 0 (0 ∷ 2 ∷ [])) ≡ true)
    × (prefers_place (wishes_of crossed) 1 (at (wishes_of crossed) 1 (1 ∷ 3 ∷ [])) (at (wishes_of crossed) 1 (0 ∷ 2 ∷ [])) ≡ true)
    × (optimal_sets crossed ≡ (1 ∷ 3 ∷ []) ∷ [])
unfolding market_on_literals
best_for_hospitals = (refl, refl, refl, refl, refl)

-- ---- to break ties by the place in the doctor's own list

-- the tie order that such a procedure would use: first choices first, and then by number
abbrev by_own_place : List ℕ → Market → Market
by_own_place ties m = record m { board = record m.board { ties = ties } }

-- the second doctor's first choice would put out the first doctor, for whom the hospital is a second choice
own_place_is_not_best : ¬ IsBest (values_of second_choice.board) (0 ∷ 1 ∷ []) (1 ∷ [])
unfolding market_on_literals
own_place_is_not_best = not_best (values_of second_choice.board) (0 ∷ 1 ∷ []) (1 ∷ []) (0 ∷ []) refl refl refl

own_place_is_not_stable : ¬ IsStableIn second_choice (1 ∷ 2 ∷ [])
unfolding market_on_literals
own_place_is_not_stable = not_stable second_choice (1 ∷ 2 ∷ []) 0 (omega arith) refl (not_best (values_of second_choice.board) (0 ∷ 1 ∷ 2 ∷ []) (1 ∷ 2 ∷ []) (0 ∷ 2 ∷ []) refl refl refl)

-- and the first doctor would gain by listing the hospital alone, which no list does for him by the definitions
own_place_invites_lies : (places_of second_choice (solve (by_own_place (1 ∷ 2 ∷ 3 ∷ 0 ∷ []) second_choice)) ≡ None ∷ Some 1 ∷ Some 2 ∷ [])
    × (places_of second_choice (solve (by_own_place (0 ∷ 1 ∷ 2 ∷ 3 ∷ []) (replaced second_choice 0 (0 ∷ [])))) ≡ Some 0 ∷ None ∷ Some 2 ∷ [])
    × (places_of second_choice (solve second_choice) ≡ Some 0 ∷ None ∷ Some 2 ∷ [])
    × (optimal_sets second_choice ≡ (0 ∷ 2 ∷ []) ∷ [])
unfolding market_on_literals
own_place_invites_lies = (refl, refl, refl, refl)

-- ---- greedy choices that stop too early, or too late

-- where nothing is gained by any contract, the larger set still wins the tie
stops_without_gain : ¬ IsBest (values_of nested.board) (0 ∷ 1 ∷ 2 ∷ []) []
unfolding market_on_literals
stops_without_gain = not_best (values_of nested.board) (0 ∷ 1 ∷ 2 ∷ []) [] (0 ∷ 2 ∷ []) refl refl refl

-- a seat that costs more than it gives stays empty
fills_at_a_loss : ¬ IsBest (values_of costly.board) (0 ∷ 1 ∷ []) (0 ∷ 1 ∷ [])
unfolding market_on_literals
fills_at_a_loss = not_best (values_of costly.board) (0 ∷ 1 ∷ []) (0 ∷ 1 ∷ []) (0 ∷ []) refl refl refl
