-- Groups that may stand in a tree of nodes.
use Rattle.std.specs.Prelude.{◌≡◌, ◌↔◌, ℕ, ◌<◌, List, None, count_by, IsFalse, All, AllPairs}
use Rattle.rm_sets.specs.Sets.{has}
use Rattle.rm_market.specs.Board.{is_empty, crosses}
use Rattle.rm_market.specs.Tree.{most_nodes, tree_fault}

-- no group is empty, any two are nested or apart, and each hospital stands in fewer than the most that may contain it with its own
pub record MakeATree (groups : List (List ℕ)) : Type 0 where
  pub filled : All (λ g. IsFalse (is_empty g)) groups
  pub laminar : AllPairs (λ g h. IsFalse (crosses g h)) groups
  pub shallow : (h : ℕ) → count_by (has h) groups < most_nodes

-- groups are without a fault exactly where they make a tree
abbrev pub AcceptedGroups : List (List ℕ) → Type 0
AcceptedGroups groups = (tree_fault groups ≡ None) ↔ MakeATree groups
