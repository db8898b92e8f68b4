-- The board of rank lists, a tree and the steps of its nodes.
use Rattle.std.specs.Prelude.{◌≡◌, ◌==◌, ℕ, ◌<◌, Bool, List, [], ℤ, map, length, drop, get_or, position, Some, None, Result, Ok, Err}
use Rattle.std.specs.List.{position_or_len}
use Rattle.rm_sets.specs.Sets.{below}
use Rattle.rm_market.specs.Board.{Board, IsTieOrder, pairs_of}
use Rattle.rm_market.specs.Tree.{TreeOf, sets_of_tree}
use Rattle.rm_market.specs.declared.BoardFault.{BoardFault}
use Rattle.rm_market.specs.declared.BoardFault.TheVariants as fault
use Rattle.rm_board_laws.specs.HospitalBoards.{hospital_board, group_nodes}
use Rattle.rm_board.specs.Rules.{order_of, fault_of}
use Rattle.rm_board.specs.TieKeys.{is_ranked}
use Rattle.rm_board.specs.declared.ties.TieRule.{TieRule}

-- the board whose nodes are those of the tree, each with its steps
abbrev pub board_of : List (List ℕ) → TreeOf → List (List ℤ) → List ℕ → Board
board_of ranks tree steps ties = hospital_board ranks (λ h. get_or steps h []) (group_nodes tree.groups (drop tree.hospitals steps)) ties

-- the contracts by their places: at each place the contract that has it
abbrev pub ties_of : List ℕ → List ℕ
ties_of places = map (λ p. position_or_len (λ q. q == p) places) (below (length places))

-- one rank list for each hospital, steps for each node, the place of each contract in a tie order, and whether that goes by rank
pub record IsBoardKept (ranks : List (List ℕ)) (tree : TreeOf) (steps : List (List ℤ)) (places : List ℕ) (ranked : Bool) : Type 0 where
  pub hospitals : length ranks ≡ tree.hospitals
  pub nodes : length steps ≡ length (sets_of_tree tree)
  pub order : IsTieOrder ranks (ties_of places)
  pub wide : length places ≡ length (pairs_of ranks)
  pub place : (x : ℕ) → x < length (pairs_of ranks) → position (λ y. y == x) (ties_of places) ≡ Some (get_or places x 0)
  pub keys : ranked ≡ is_ranked ranks (ties_of places)

-- the board with ties by the rule, or the first fault of the rule
abbrev pub BuildsBoard : List (List ℕ) → TreeOf → List (List ℤ) → TieRule → Result Board BoardFault → Type 0
BuildsBoard ranks tree steps rule (Ok board) = (fault_of ranks rule ≡ None) × (board ≡ board_of ranks tree steps (order_of ranks rule))
    × IsTieOrder ranks board.ties
BuildsBoard ranks tree steps rule (Err fault.NoMemory) = Unit {0}
BuildsBoard ranks tree steps rule (Err e) = fault_of ranks rule ≡ Some e
