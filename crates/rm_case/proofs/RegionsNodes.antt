-- The nodes of the board of a roster and a policy, by their numbers.
use Rattle.std.proofs.Common.{◌≡◌, ◌∙◌, ◌+◌, ◌-◌, ◌<◌, ◌≤◌, ◌==◌, ◌||◌, ℕ, zero, suc, Bool, true, false, List, [], ◌∷◌, length, get_or, ℤ, refl, ap, arith}
use Rattle.std.proofs.lemmas.List.{get_or-append_right, get_or_append_left, get_or-map, length-append, length-map}
use Rattle.rm_board_laws.specs.HospitalBoards.{group_nodes, hospital_board, hospital_nodes}
use Rattle.rm_market.specs.Board.{Board, Node, contract_count, hospital_of, leaf_of, no_node, node_at, pairs_of}
use Rattle.rm_policy.specs.Policy.{PolicyData, IsPolicy}
use Rattle.rm_roster.specs.Roster.{RosterData}
use Rattle.rm_sets.specs.Sets.{below}
use Rattle.rm_sets.proofs.Once.{get_or-below, length-below}
use Rattle.rm_valuation_laws.specs.Changes.{in_node}
use Rattle.rm_case.specs.Compiled.{compiled_steps, tie_order_of}

groups_each : (sets : List (List ℕ)) (steps : List (List ℤ)) → length steps ≡ length sets → length (group_nodes sets steps) ≡ length sets
groups_each [] steps e = refl
groups_each (set ∷ sets) [] e = absurd (omega (arith, e))
groups_each (set ∷ sets) (s ∷ steps) e = ap suc (groups_each sets steps (omega (arith, e)))

group_at : (sets : List (List ℕ)) (steps : List (List ℤ)) (g : ℕ) → length steps ≡ length sets → g < length sets → get_or (group_nodes sets steps) g no_node ≡ record { leaves = get_or sets g []; steps = get_or steps g [] }
group_at [] steps g e lt = absurd (omega (arith, lt))
group_at (set ∷ sets) [] g e lt = absurd (omega (arith, e))
group_at (set ∷ sets) (s ∷ steps) zero e lt = refl
group_at (set ∷ sets) (s ∷ steps) (suc g) e lt = group_at sets steps g (omega (arith, e)) (omega (arith, lt))

-- the compiled board, opened
abbrev pub opened_board : RosterData → PolicyData → Board
opened_board r p = hospital_board r.ranks (compiled_steps r p) (group_nodes p.groups.members p.groups.steps) (tie_order_of r p p.ties)

module _ (r : RosterData) (p : PolicyData) where
  abbrev b : Board
  b = opened_board r p

  abbrev n : ℕ
  n = length r.ranks

  abbrev own : List Node
  own = hospital_nodes n (compiled_steps r p)

  abbrev groups : List Node
  groups = group_nodes p.groups.members p.groups.steps

  abbrev hospital_node : ℕ → Node
  hospital_node h = record { leaves = h ∷ []; steps = compiled_steps r p h }

  pub own_long : length own ≡ n
  own_long = length-map (below n) hospital_node ∙ length-below n

  -- a node for each hospital and for each group
  pub nodes_long : IsPolicy p → length b.nodes ≡ n + length p.groups.members
  nodes_long policy = omega (arith, length-append own groups, own_long, groups_each p.groups.members p.groups.steps policy.steps_each)

  pub hospital_node_at : (h : ℕ) → h < n → node_at b h ≡ hospital_node h
  hospital_node_at h lt =
      get_or_append_left own groups no_node h (omega (arith, lt, own_long))
      ∙ (get_or-map hospital_node (below n) h 0 no_node (omega (arith, lt, length-below n)) ∙ ap hospital_node (get_or-below n h 0 lt))

  pub group_node_at : (k : ℕ) → IsPolicy p → n ≤ k → k - n < length p.groups.members → node_at b k ≡ record { leaves = get_or p.groups.members (k - n) []; steps = get_or p.groups.steps (k - n) [] }
  group_node_at k policy le lt = get_or-append_right own groups n k no_node own_long le ∙ group_at p.groups.members p.groups.steps (k - n) policy.steps_each lt

  -- the leaf of a contract is its hospital
  pub leaf_is : (x : ℕ) → x < contract_count b → leaf_of b x ≡ hospital_of b x
  leaf_is x lt = get_or-map (λ (c : ℕ × ℕ). c.1) (pairs_of r.ranks) x (0, 0) 0 lt

  -- a node of one hospital has its contracts
  pub in_hospital_node : (m : Node) (h x : ℕ) → m.leaves ≡ h ∷ [] → x < contract_count b → in_node b m x ≡ (hospital_of b x == h)
  in_hospital_node m h x leaves lt = rw (leaves, leaf_is x lt) (or_none (hospital_of b x == h))
    where
      or_none : (c : Bool) → (c || false) ≡ c
      or_none true = refl
      or_none false = refl
