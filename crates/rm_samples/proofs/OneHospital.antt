-- The board of one hospital without groups.
use Rattle.std.proofs.Common.{◌≡◌, ℕ, ◌<◌, List, [], length, get_or, eqb, ℤ, All, sym, ap, subst, arith}
use Rattle.std.specs.Prelude.{drop}
use Rattle.std.specs.List.{IsDistinct}
use Rattle.std.proofs.lemmas.List.Elements.{All-nil}
use Rattle.rm_sets.specs.Sets.{IsSet}
use Rattle.rm_market.specs.Board.{Board, IsBoard, IsFalling, IsTieOrder}
use Rattle.rm_market.specs.Steps.{AreSteps}
use Rattle.rm_market.specs.Tree.{TreeOf}
use Rattle.rm_board_laws.specs.HospitalBoards.{AreGroups, AreListsBelow, group_nodes}
use Rattle.rm_board_laws.proofs.HospitalBoards.{hospitals_make_boards}
use Rattle.rm_board.specs.Boards.{board_of}
use Rattle.rm_valuation.specs.Counts.{IsMarketBoard}

lists_below : (n : ℕ) (lists : List (List ℕ)) → All (IsDistinct eqb) lists → All (All (λ x. x < n)) lists → AreListsBelow n lists
lists_below n lists d b = λ k e lt. (d k e lt, b k e lt)

no_groups : AreGroups []
no_groups = record { sets = All-nil (λ g. IsSet g.leaves); laminar = λ i j d lt ll. absurd (omega arith); concave = All-nil (λ g. IsFalling g.steps) }

pub one_board : (ranks : List (List ℕ)) (tree : TreeOf) (steps : List (List ℤ)) (ties : List ℕ) (board : Board) → board ≡ board_of ranks tree steps ties → IsTieOrder ranks board.ties →
    All (IsDistinct eqb) ranks → All (All (λ x. x < 2)) ranks → length ranks ≡ length steps → All AreSteps steps → tree.groups ≡ [] → IsMarketBoard board
one_board ranks tree steps ties board e tie d b one a none = (
  2,
  subst (IsBoard 2) (sym e)
      (hospitals_make_boards 2 ranks (λ h. get_or steps h []) (group_nodes tree.groups (drop tree.hospitals steps)) ties
      (lists_below 2 ranks d b)
      (λ h lt. (a h [] (omega (arith, lt, one))).falling)
      (subst (λ g. AreGroups (group_nodes g (drop tree.hospitals steps))) (sym none) no_groups)
      (subst (IsTieOrder ranks) (ap (λ t. t.ties) e) tie)),
)
