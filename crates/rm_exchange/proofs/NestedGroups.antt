-- The board of hospitals and nested groups, where each hospital ranks two doctors.
use Rattle.std.proofs.Common.{◌≡◌, ℕ, ◌+◌, ◌<◌, ◌≤◌, List, [], ◌∷◌, true, length, get_or, eqb, ℤ, None, Vec, All, sym, ap, subst, arith}
use Rattle.std.specs.Prelude.{drop}
use Rattle.std.specs.List.{IsDistinct}
use Rattle.std.specs.declared.alloc.Global.{Global}
use Rattle.rm_laminar.specs.Chains.{chain_lists}
use Rattle.std.proofs.lemmas.List.{get_or-drop, length-drop}
use Rattle.std.proofs.lemmas.List.Elements.{All-nil, All-cons, All-from_get_or, All-map}
use Rattle.rm_sets.specs.Sets.{IsSet, IsSetBelow, below}
use Rattle.rm_sets.proofs.Once.{distinct_none}
use Rattle.rm_sets.proofs.Sets.{IsSet-all_below, below-all_below}
use Rattle.rm_market.specs.Board.{Board, IsBoard, IsFalling, IsTieOrder}
use Rattle.rm_market.specs.Steps.{AreSteps}
use Rattle.rm_market.specs.Tree.{TreeOf, tree_fault}
use Rattle.rm_board_laws.specs.HospitalBoards.{AreListsBelow}
use Rattle.rm_board_laws.proofs.HospitalBoards.{accepted_markets}
use Rattle.rm_board.specs.Boards.{board_of}
use Rattle.rm_valuation.specs.Counts.{IsMarketBoard}

pub first_set : (size n : ℕ) → size ≤ n → IsSetBelow n (below size)
first_set size n le = record { ascending = IsSet-all_below size (λ k. true); below = λ x i. let f = below-all_below size (λ k. true) x i in omega (arith, f.0) }

lists_below : (n : ℕ) (lists : List (List ℕ)) → All (IsDistinct eqb) lists → All (All (λ x. x < n)) lists → AreListsBelow n lists
lists_below n lists d b = λ k e lt. (d k e lt, b k e lt)

no_lists : List (List ℕ)
no_lists = [] ∷ [] ∷ []

pub nested_board : (ranks : List (List ℕ)) (tree : TreeOf) (steps : List (List ℤ)) (ties : List ℕ) (board : Board) → board ≡ board_of ranks tree steps ties → IsTieOrder ranks board.ties →
    All (IsDistinct eqb) ranks → All (All (λ x. x < 2)) ranks → length ranks ≤ length steps → All AreSteps steps → All IsSet tree.groups → tree_fault tree.groups ≡ None → IsMarketBoard board
unfolding no_lists
nested_board ranks tree steps ties board e tie d b long a sets fault = (
  2,
  subst (IsBoard 2) (sym e)
      (accepted_markets ranks (λ h. get_or steps h []) tree.groups (drop tree.hospitals steps) ties no_lists
      (lists_below 2 ranks d b)
      (lists_below (length ranks) no_lists nobody nothing)
      (λ h lt. (a h [] (omega arith)).falling)
      sets fault
      (All-from_get_or IsFalling (drop tree.hospitals steps) [] (λ k lt. subst IsFalling (sym (get_or-drop tree.hospitals steps k [])) ((a (tree.hospitals + k) [] (let l = length-drop tree.hospitals steps in omega arith)).falling)))
      (subst (IsTieOrder ranks) (ap (λ t. t.ties) e) tie)).board,
)
  where
    alone : IsDistinct eqb []
    alone = distinct_none

    nobody : All (IsDistinct eqb) no_lists
    nobody = All-cons (IsDistinct eqb) [] ([] ∷ []) alone (All-cons (IsDistinct eqb) [] [] alone (All-nil (IsDistinct eqb)))

    none : All (λ x. x < length ranks) []
    none = All-nil (λ x. x < length ranks)

    nothing : All (All (λ x. x < length ranks)) no_lists
    nothing = All-cons (All (λ x. x < length ranks)) [] ([] ∷ []) none (All-cons (All (λ x. x < length ranks)) [] [] none (All-nil (All (λ x. x < length ranks))))

-- the sets of groups that are kept in vectors
pub kept_sets : (n : ℕ) (groups : List (Vec ℕ Global)) → All (λ g. IsSetBelow n g.items) groups → All IsSet (chain_lists groups)
kept_sets n groups h = All-map IsSet (λ (g : Vec ℕ Global). g.items) groups (λ k e lt. (h k e lt).ascending)
