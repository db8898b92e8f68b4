-- The flexible procedure, the worths of its seats and its count form agree on small markets.
use Rattle.std.proofs.Common.{◌≡◌, ℕ, List, [], ◌∷◌, Some, pos, refl, map, replicate, ◌++◌}
use Rattle.std.specs.Prelude.{Bool, ◌&&◌, ◌||◌, not, ◌==◌, filter}
use Rattle.std.specs.List.{list_all}
use Rattle.rm_sets.specs.Sets.{all_below}
use Rattle.rm_market.proofs.OnLiterals.{market_on_literals}
use Rattle.rm_market.specs.Board.{is_feasible, contract_count}
use Rattle.rm_market.specs.Best.{best_of, values_of, subsets}
use Rattle.rm_market.specs.Stable.{owner, is_listed}
use Rattle.rm_market.specs.Machine.{start, run, turns_of, closing}
use Rattle.rm_market.specs.Market.{Market, stable_sets, places_of, wishes_of}
use Rattle.rm_market.specs.Flexible.{Region, kept, flexible, seat_steps, has_count_form}
use Rattle.rm_market.specs.declared.Outcome.TheVariants.{Kept, Refused, Swapped}
use Rattle.rm_market.specs.declared.Turn.TheVariants.{Idle, Done, Moved}
use Rattle.rm_market.proofs.Small.{two, targets, targets_region, two_region, wide, wide_region}

abbrev six : List ℕ
six = 0 ∷ 1 ∷ 2 ∷ 3 ∷ 4 ∷ 5 ∷ []

targets_kept_is_best : map (kept targets.board targets_region) (subsets six) ≡ map (best_of (values_of targets.board)) (subsets six)
unfolding market_on_literals
targets_kept_is_best = refl

two_flexible_turns : turns_of (flexible two.board (two_region ∷ [])) (wishes_of two) (start (wishes_of two)) (0 ∷ 1 ∷ 0 ∷ 1 ∷ []) ≡ Moved 2 Kept ∷ Moved 1 (Swapped 2) ∷ Moved 0 (Swapped 1) ∷ Done ∷ []
unfolding market_on_literals
two_flexible_turns = refl

two_flexible_turns_again : turns_of (flexible two.board (two_region ∷ [])) (wishes_of two) (start (wishes_of two)) (1 ∷ 0 ∷ 0 ∷ 0 ∷ []) ≡ Moved 1 Kept ∷ Moved 2 Refused ∷ Moved 0 (Swapped 1) ∷ Idle ∷ []
unfolding market_on_literals
two_flexible_turns_again = refl

-- the feasible sets of contracts, at most one per doctor, that have the count form are the stable ones
abbrev is_single : Market → List ℕ → Bool
is_single m S = list_all (λ x. list_all (λ y. (x == y) || not (owner (wishes_of m) x == owner (wishes_of m) y)) S) S

abbrev counted : Market → List Region → List (List ℕ)
counted m regions =
    filter (λ S. is_feasible m.board S && is_single m S && has_count_form m.board regions (wishes_of m) S)
    (subsets (all_below (contract_count m.board) (is_listed (wishes_of m))))

two_counted : counted two (two_region ∷ []) ≡ stable_sets two
unfolding market_on_literals
two_counted = refl

targets_counted : counted targets (targets_region ∷ []) ≡ stable_sets targets
unfolding market_on_literals
targets_counted = refl

-- the steps of the hospitals' nodes are the worths of their seats
targets_steps : map (λ s. s.steps) targets.board.nodes ≡ seat_steps targets_region 1 (record { hospital = 0; target = 0; capacity = 3 }) ∷ seat_steps targets_region 2 (record { hospital = 1; target = 2; capacity = 3 }) ∷ replicate 3 (pos 0) ∷ []
unfolding market_on_literals
targets_steps = refl

-- where the cap has room, applicants above the targets are placed too
wide_placed : places_of wide (run (flexible wide.board (wide_region ∷ [])) (wishes_of wide) (start (wishes_of wide)) (closing (wishes_of wide))).held ≡ replicate 3 (Some 0) ++ replicate 7 (Some 1)
unfolding market_on_literals
wide_placed = refl
