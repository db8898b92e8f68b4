-- The nodes of a board: their sets are those of the tree, and their steps those that were given.
use Rattle.std.proofs.Common.{◌≡◌, ◌∙◌, sym, ap, refl, ℕ, zero, suc, ◌+◌, ◌-◌, ◌<◌, List, [], ◌∷◌, ℤ, length, map, drop, get_or, inl, inr, arith, length-append, length-drop, get_or-drop}
use Rattle.std.proofs.lemmas.Bool.{cases_lt}
use Rattle.std.proofs.lemmas.List.{length-map, get_or-map, get_or_append_left, get_or-append_right}
use Rattle.rm_sets.specs.Sets.{below}
use Rattle.rm_sets.proofs.Once.{length-below, get_or-below}
use Rattle.rm_market.specs.Board.{Node, no_node, node_at, sets_of}
use Rattle.rm_market.specs.Tree.{TreeOf, sets_of_tree, tree_sets}
use Rattle.rm_board_laws.specs.HospitalBoards.{hospital_nodes, group_nodes}
use Rattle.rm_board_laws.proofs.HospitalBoards.{accepted_trees}
use Rattle.rm_board.specs.Boards.{board_of}

abbrev own : (ℕ → List ℤ) → ℕ → Node
own steps h = record { leaves = h ∷ []; steps = steps h }

length-hospitals : (n : ℕ) (steps : ℕ → List ℤ) → length (hospital_nodes n steps) ≡ n
length-hospitals n steps = length-map {B = Node} (below n) (own steps) ∙ length-below n

length-groups : (groups : List (List ℕ)) (steps : List (List ℤ)) → length groups ≡ length steps → length (group_nodes groups steps) ≡ length groups
length-groups [] steps same = refl
length-groups (g ∷ groups) [] same = absurd (omega arith)
length-groups (g ∷ groups) (s ∷ steps) same = ap suc (length-groups groups steps (omega arith))

group-steps : (groups : List (List ℕ)) (steps : List (List ℤ)) (j : ℕ) → length groups ≡ length steps → j < length groups → (get_or (group_nodes groups steps) j no_node).steps ≡ get_or steps j []
group-steps [] steps j same lt = absurd (omega arith)
group-steps (g ∷ groups) [] j same lt = absurd (omega arith)
group-steps (g ∷ groups) (s ∷ steps) zero same lt = refl
group-steps (g ∷ groups) (s ∷ steps) (suc j) same lt = group-steps groups steps j (omega arith) (omega arith)

module _ (ranks : List (List ℕ)) (tree : TreeOf) (steps : List (List ℤ)) (ties : List ℕ) (hospitals : length ranks ≡ tree.hospitals) (nodes : length steps ≡ length (sets_of_tree tree)) where
  rest : length tree.groups ≡ length (drop tree.hospitals steps)
  rest = omega (arith, nodes, length-append (map (λ h. h ∷ []) (below tree.hospitals)) tree.groups, length-map {B = List ℕ} (below tree.hospitals) (λ h. h ∷ []), length-below tree.hospitals, length-drop tree.hospitals steps)

  all : length steps ≡ tree.hospitals + length tree.groups
  all = omega (arith, nodes, length-append (map (λ h. h ∷ []) (below tree.hospitals)) tree.groups, length-map {B = List ℕ} (below tree.hospitals) (λ h. h ∷ []), length-below tree.hospitals)

  pub length-nodes : length (board_of ranks tree steps ties).nodes ≡ length steps
  length-nodes =
      let hs = hospital_nodes (length ranks) (λ h. get_or steps h []) in
      let gs = group_nodes tree.groups (drop tree.hospitals steps) in
      omega (arith, length-append hs gs, length-hospitals (length ranks) (λ h. get_or steps h []), length-groups tree.groups (drop tree.hospitals steps) rest, all, hospitals)

  pub node-steps : (k : ℕ) → k < length steps → get_or steps k [] ≡ (node_at (board_of ranks tree steps ties) k).steps
  node-steps k lt =
      let f = λ (h : ℕ). get_or steps h [] in
      let hs = hospital_nodes (length ranks) f in
      let gs = group_nodes tree.groups (drop tree.hospitals steps) in
      let long = length-hospitals (length ranks) f in
      elim (cases_lt k (length ranks)) [
        | inl less ↦
            let within : k < length (below (length ranks)) = omega (arith, length-below (length ranks)) in
            let e : get_or hs k no_node ≡ own f k = get_or-map (own f) (below (length ranks)) k 0 no_node within ∙ ap (own f) (get_or-below (length ranks) k 0 less) in
            sym (ap (λ (n : Node). n.steps) (get_or_append_left hs gs no_node k (omega arith) ∙ e))
        | inr past ↦
            let e = get_or-append_right hs gs (length ranks) k no_node long past in
            let g = group-steps tree.groups (drop tree.hospitals steps) (k - length ranks) rest (omega (arith, all)) in
            let i : tree.hospitals + (k - length ranks) ≡ k = omega arith in
            sym (ap (λ (n : Node). n.steps) e ∙ g ∙ get_or-drop tree.hospitals steps (k - length ranks) [] ∙ ap (λ (j : ℕ). get_or steps j []) i)
      ]

  pub node-sets : sets_of_tree tree ≡ sets_of (board_of ranks tree steps ties)
  node-sets = sym (accepted_trees ranks (λ h. get_or steps h []) tree.groups (drop tree.hospitals steps) ties rest ∙ ap (λ (n : ℕ). tree_sets n tree.groups) hospitals)
