-- Boards whose leaves are the hospitals: each hospital is a node, and groups of hospitals may follow.
use Rattle.std.specs.Prelude.{◌≡◌, None, ◌==◌, ℕ, ◌<◌, List, [], ◌∷◌, ◌++◌, map, length, ℤ, pos, replicate, slice_index, IsFalse, All, AllPairs}
use Rattle.rm_base.specs.Lists.{IsListBelow}
use Rattle.rm_sets.specs.Sets.{IsSet, below}
use Rattle.rm_market.specs.Board.{Node, Board, IsBoard, IsFalling, IsTieOrder, crosses, pairs_of, sets_of}
use Rattle.rm_market.specs.Tree.{tree_sets, tree_fault}
use Rattle.rm_market.specs.Ties.{by_rank}
use Rattle.rm_market.specs.Market.{Market, IsMarket}

-- the nodes of n hospitals, each with its own steps
abbrev pub hospital_nodes : ℕ → (ℕ → List ℤ) → List Node
hospital_nodes n steps = map (λ h. record { leaves = h ∷ []; steps = steps h }) (below n)

-- the board of these rank lists: each hospital is a leaf and a node, and then come the groups
abbrev pub hospital_board : List (List ℕ) → (ℕ → List ℤ) → List Node → List ℕ → Board
hospital_board ranks steps groups ties =
    record {
      ranks = ranks;
      leaves = map (λ c. c.1) (pairs_of ranks);
      nodes = hospital_nodes (length ranks) steps ++ groups;
      ties = ties;
    }

-- groups as nodes, each with its steps
abbrev pub group_nodes : List (List ℕ) → List (List ℤ) → List Node
group_nodes [] steps = []
group_nodes (set ∷ sets) [] = []
group_nodes (set ∷ sets) (s ∷ steps) = record { leaves = set; steps = s } ∷ group_nodes sets steps

-- the market without a policy: each hospital has as many steps of 0 as its capacity, there are no groups, and ties go by rank
abbrev pub plain_market : List (List ℕ) → List ℕ → List (List ℕ) → Market
plain_market ranks capacities lists =
    record { board = hospital_board ranks (λ h. replicate (slice_index capacities h) (pos 0)) [] (by_rank ranks); lists = lists }

-- lists of numbers below n, in each of which a number stands once
abbrev pub AreListsBelow : ℕ → List (List ℕ) → Type 0
AreListsBelow n lists = All (IsListBelow n) lists

-- groups of hospitals of which any two are nested or apart, with steps that never rise
pub record AreGroups (groups : List Node) : Type 0 where
  pub sets : All (λ g. IsSet g.leaves) groups
  pub laminar : AllPairs (λ g h. IsFalse (crosses g.leaves h.leaves)) groups
  pub concave : All (λ g. IsFalling g.steps) groups

-- lists of known doctors, steps that never rise, such groups and a tie order make a board
abbrev pub HospitalsMakeBoards : Type 0
HospitalsMakeBoards =
    (doctors : ℕ) (ranks : List (List ℕ)) (steps : ℕ → List ℤ) (groups : List Node) (ties : List ℕ)
    → AreListsBelow doctors ranks → ((h : ℕ) → h < length ranks → IsFalling (steps h)) → AreGroups groups → IsTieOrder ranks ties
    → IsBoard doctors (hospital_board ranks steps groups ties)

-- the market without a policy is a market
abbrev pub PlainMarkets : Type 0
PlainMarkets =
    (ranks : List (List ℕ)) (capacities : List ℕ) (lists : List (List ℕ))
    → AreListsBelow (length lists) ranks → AreListsBelow (length ranks) lists → IsMarket (plain_market ranks capacities lists)

-- sets of hospitals without a fault, with steps that never rise, a tie order, and lists of known doctors and hospitals make a market
abbrev pub AcceptedMarkets : Type 0
AcceptedMarkets =
    (ranks : List (List ℕ)) (steps : ℕ → List ℤ) (sets : List (List ℕ)) (group_steps : List (List ℤ)) (ties : List ℕ) (lists : List (List ℕ))
    → AreListsBelow (length lists) ranks → AreListsBelow (length ranks) lists → ((h : ℕ) → h < length ranks → IsFalling (steps h))
    → All IsSet sets → tree_fault sets ≡ None → All IsFalling group_steps → IsTieOrder ranks ties
    → IsMarket (record { board = hospital_board ranks steps (group_nodes sets group_steps) ties; lists = lists })

-- its nodes are those of the tree of these groups
abbrev pub AcceptedTrees : Type 0
AcceptedTrees =
    (ranks : List (List ℕ)) (steps : ℕ → List ℤ) (sets : List (List ℕ)) (group_steps : List (List ℤ)) (ties : List ℕ)
    → length sets ≡ length group_steps → sets_of (hospital_board ranks steps (group_nodes sets group_steps) ties) ≡ tree_sets (length ranks) sets
