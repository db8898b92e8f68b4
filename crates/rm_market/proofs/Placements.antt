-- The placements of small markets: by turns, and as the one optimal set among all stable ones.
use Rattle.std.proofs.Common.{◌≡◌, [], ◌∷◌, pos, Some, None, true, refl, map, replicate, ◌++◌}
use Rattle.rm_market.proofs.OnLiterals.{market_on_literals}
use Rattle.rm_market.specs.Board.{worth}
use Rattle.rm_market.specs.Best.{best_of, values_of}
use Rattle.rm_market.specs.Tree.{tree_sets, depth}
use Rattle.rm_market.specs.Machine.{start, run, turns_of, is_closed}
use Rattle.rm_market.specs.Market.{solve, optimal_sets, stable_sets, places_of, wishes_of, replaced}
use Rattle.rm_market.specs.declared.Outcome.TheVariants.{Kept, Refused, Swapped}
use Rattle.rm_market.specs.declared.Turn.TheVariants.{Idle, Done, Moved}
use Rattle.rm_market.proofs.Small.{two, costly, targets, nested, west, full, deep, wide, crossed, dear, classes}

-- ---- one seat in a region of two hospitals

two_solved : places_of two (solve two) ≡ Some 0 ∷ None ∷ []
unfolding market_on_literals
two_solved = refl

two_optimal : optimal_sets two ≡ (0 ∷ []) ∷ []
unfolding market_on_literals
two_optimal = refl

-- where the first doctor lists the second hospital alone, the second doctor gets the seat
two_replaced : places_of two (solve (replaced two 0 (1 ∷ []))) ≡ None ∷ Some 0 ∷ []
unfolding market_on_literals
two_replaced = refl

two_turns : turns_of (best_of (values_of two.board)) (wishes_of two) (start (wishes_of two)) (0 ∷ 1 ∷ 0 ∷ 1 ∷ []) ≡ Moved 2 Kept ∷ Moved 1 (Swapped 2) ∷ Moved 0 (Swapped 1) ∷ Done ∷ []
unfolding market_on_literals
two_turns = refl

two_turns_again : turns_of (best_of (values_of two.board)) (wishes_of two) (start (wishes_of two)) (1 ∷ 0 ∷ 0 ∷ 0 ∷ []) ≡ Moved 1 Kept ∷ Moved 2 Refused ∷ Moved 0 (Swapped 1) ∷ Idle ∷ []
unfolding market_on_literals
two_turns_again = refl

-- both runs are closed, and the first doctor holds the seat at the first hospital
two_closed : (is_closed (wishes_of two) (run (best_of (values_of two.board)) (wishes_of two) (start (wishes_of two)) (0 ∷ 1 ∷ 0 ∷ 1 ∷ [])) ≡ true)
    × (is_closed (wishes_of two) (run (best_of (values_of two.board)) (wishes_of two) (start (wishes_of two)) (1 ∷ 0 ∷ 0 ∷ 0 ∷ [])) ≡ true)
    × ((run (best_of (values_of two.board)) (wishes_of two) (start (wishes_of two)) (0 ∷ 1 ∷ 0 ∷ 1 ∷ [])).held ≡ 0 ∷ [])
    × ((run (best_of (values_of two.board)) (wishes_of two) (start (wishes_of two)) (1 ∷ 0 ∷ 0 ∷ 0 ∷ [])).held ≡ 0 ∷ [])
unfolding market_on_literals
two_closed = (refl, refl, refl, refl)

-- ---- a seat that costs more than it gives

costly_solved : places_of costly (solve costly) ≡ None ∷ Some 0 ∷ []
unfolding market_on_literals
costly_solved = refl

costly_optimal : optimal_sets costly ≡ (0 ∷ []) ∷ []
unfolding market_on_literals
costly_optimal = refl

-- ---- targets and turns

targets_best : best_of (values_of targets.board) (0 ∷ 1 ∷ 2 ∷ 3 ∷ 4 ∷ 5 ∷ []) ≡ 0 ∷ 3 ∷ 4 ∷ []
unfolding market_on_literals
targets_best = refl

targets_solved : places_of targets (solve targets) ≡ Some 0 ∷ None ∷ None ∷ Some 1 ∷ Some 1 ∷ None ∷ []
unfolding market_on_literals
targets_solved = refl

targets_optimal : optimal_sets targets ≡ (0 ∷ 3 ∷ 4 ∷ []) ∷ []
unfolding market_on_literals
targets_optimal = refl

-- ---- a group inside a prefecture

nested_solved : places_of nested (solve nested) ≡ Some 0 ∷ None ∷ Some 2 ∷ []
unfolding market_on_literals
nested_solved = refl

nested_optimal : optimal_sets nested ≡ (0 ∷ 2 ∷ []) ∷ []
unfolding market_on_literals
nested_optimal = refl

-- ---- a first seat that is worth more

west_solved : places_of west (solve west) ≡ Some 0 ∷ None ∷ Some 1 ∷ []
unfolding market_on_literals
west_solved = refl

west_optimal : optimal_sets west ≡ (0 ∷ 2 ∷ []) ∷ []
unfolding market_on_literals
west_optimal = refl

-- ---- no seat, three nodes round one hospital, room above the targets

full_solved : places_of full (solve full) ≡ None ∷ []
unfolding market_on_literals
full_solved = refl

full_optimal : optimal_sets full ≡ [] ∷ []
unfolding market_on_literals
full_optimal = refl

deep_solved : places_of deep (solve deep) ≡ Some 0 ∷ Some 0 ∷ None ∷ None ∷ []
unfolding market_on_literals
deep_solved = refl

deep_depth : depth (tree_sets 1 ((0 ∷ []) ∷ (0 ∷ []) ∷ [])) 1 ≡ 3
unfolding market_on_literals
deep_depth = refl

wide_best : best_of (values_of wide.board) (0 ∷ 1 ∷ 2 ∷ 3 ∷ 4 ∷ 5 ∷ 6 ∷ 7 ∷ 8 ∷ 9 ∷ []) ≡ 0 ∷ 1 ∷ 2 ∷ 3 ∷ 4 ∷ 5 ∷ 6 ∷ 7 ∷ 8 ∷ 9 ∷ []
unfolding market_on_literals
wide_best = refl

wide_solved : places_of wide (solve wide) ≡ replicate 3 (Some 0) ++ replicate 7 (Some 1)
unfolding market_on_literals
wide_solved = refl

deep_optimal : optimal_sets deep ≡ (0 ∷ 1 ∷ []) ∷ []
unfolding market_on_literals
deep_optimal = refl

-- ---- two stable sets

crossed_stable : stable_sets crossed ≡ (1 ∷ 3 ∷ []) ∷ (0 ∷ 2 ∷ []) ∷ []
unfolding market_on_literals
crossed_stable = refl

crossed_optimal : (optimal_sets crossed ≡ (1 ∷ 3 ∷ []) ∷ []) × (places_of crossed (solve crossed) ≡ Some 0 ∷ Some 1 ∷ [])
unfolding market_on_literals
crossed_optimal = (refl, refl)

-- ---- a swap that is better than an addition

dear_solved : places_of dear (solve dear) ≡ None ∷ Some 1 ∷ []
unfolding market_on_literals
dear_solved = refl

dear_worths : map (worth dear.board) ((0 ∷ []) ∷ (0 ∷ 1 ∷ []) ∷ (1 ∷ []) ∷ []) ≡ pos 3 ∷ pos 4 ∷ pos 5 ∷ []
unfolding market_on_literals
dear_worths = refl

-- ---- leaves that part the doctors of one hospital

classes_solved : (places_of classes (solve classes) ≡ Some 0 ∷ None ∷ Some 0 ∷ []) × (optimal_sets classes ≡ (0 ∷ 2 ∷ []) ∷ [])
unfolding market_on_literals
classes_solved = (refl, refl)

classes_depth : depth (map (λ n. n.leaves) classes.board.nodes) 2 ≡ 3
unfolding market_on_literals
classes_depth = refl
