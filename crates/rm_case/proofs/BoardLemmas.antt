-- The board that the tree, the steps of its nodes and the tie rule make is that of the roster and the policy.
use Rattle.std.proofs.Common.{◌≡◌, ◌∙◌, ◌+◌, ◌<◌, ℕ, zero, suc, List, [], ◌∷◌, ◌++◌, length, get_or, drop, take, map, append_assoc, ℤ, Some, None, refl, sym, ap, arith, All}
use Rattle.std.specs.Global.{Vec}
use Rattle.std.specs.Prelude.{slice_get}
use Rattle.std.proofs.lemmas.List.{get_or-map, get_or_append_left, length-map, map-append, take_more}
use Rattle.std.proofs.lemmas.Option.{get_or_from_slice_get, slice_get_within}
use Rattle.rm_base.specs.Checks.{first_of}
use Rattle.rm_board.specs.Boards.{board_of as built_board}
use Rattle.rm_board.specs.Rules.{fault_of, order_of}
use Rattle.rm_board.specs.declared.ties.TieRule.{TieRule}
use Rattle.rm_board.specs.declared.ties.TieRule.TheVariants as rule
use Rattle.rm_board_laws.specs.HospitalBoards.{hospital_nodes}
use Rattle.rm_market.specs.Board.{Board, Node}
use Rattle.rm_market.specs.Tree.{TreeOf, tree_fault}
use Rattle.rm_policy.specs.Policy.{PolicyData}
use Rattle.rm_roster.specs.Roster.{RosterData, IsRoster}
use Rattle.rm_sets.specs.Sets.{below, IsSetBelow}
use Rattle.rm_sets.proofs.Once.{get_or-below, length-below}
use Rattle.rm_case.specs.Case.{board_checks, ties_fault}
use Rattle.rm_case.specs.Compiled.{compiled_board, compiled_steps, tie_order_of}
use Rattle.rm_case.specs.Suits.{IsRuleOf}
use Rattle.rm_case.specs.NodeSteps.{node_steps}

-- the groups are sets of hospitals, as vectors
pub group_sets : (n m : ℕ) (groups : List (Vec ℕ)) (members : List (List ℕ)) → All (λ g. IsSetBelow n g) members → map (λ g. g.items) groups ≡ members → m ≡ n → All (λ g. IsSetBelow m g.items) groups
group_sets n m groups members sets same size k d lt =
    let long : length groups ≡ length members = sym (length-map groups (λ (g : Vec ℕ). g.items)) ∙ ap length same in
    let at : get_or members k [] ≡ (get_or groups k d).items = ap (λ (L : List (List ℕ)). get_or L k []) (sym same) ∙ get_or-map (λ (g : Vec ℕ). g.items) groups k d [] lt in
    rw (size, ← at) (sets k [] (omega (arith, lt, long)))

-- ---- the rule of the ties

pub rule_order : (r : RosterData) (p : PolicyData) (t : TieRule) → IsRuleOf p t → order_of r.ranks t ≡ tie_order_of r p p.ties
unfolding tie_order_of
rule_order r p rule.ByRank e = rw e refl
rule_order r p rule.ByHospital e = rw e refl
rule_order r p (rule.Listed pairs) e = rw e.0 (rw e.1 refl)

pub rule_fault : (r : RosterData) (p : PolicyData) (t : TieRule) → IsRuleOf p t → fault_of r.ranks t ≡ ties_fault r p p.ties
rule_fault r p rule.ByRank e = rw e refl
rule_fault r p rule.ByHospital e = rw e refl
rule_fault r p (rule.Listed pairs) e = rw e.0 (rw e.1 refl)

-- ---- the nodes

pub map_below : {A : Type 0} (f g : ℕ → A) (n : ℕ) → ((h : ℕ) → h < n → f h ≡ g h) → map f (below n) ≡ map g (below n)
map_below f g zero same = refl
map_below f g (suc n) same =
    rw (map-append f (below n) (n ∷ []), map-append g (below n) (n ∷ []), map_below f g n (λ h lt. same h (omega (arith, lt))), same n (omega arith)) refl

drop_past : {A : Type 0} (xs ys : List A) → drop (length xs) (xs ++ ys) ≡ ys
drop_past [] ys = refl
drop_past (x ∷ xs) ys = drop_past xs ys

pub own_at : (r : RosterData) (p : PolicyData) (h : ℕ) → h < length r.hospitals → get_or (node_steps r p) h [] ≡ compiled_steps r p h
own_at r p h lt =
    let n = length r.hospitals in
    let own = map (compiled_steps r p) (below n) in
    let wide : length own ≡ n = length-map (below n) (compiled_steps r p) ∙ length-below n in
    get_or_append_left own p.groups.steps [] h (omega (arith, lt, wide))
    ∙ (get_or-map (compiled_steps r p) (below n) h 0 [] (omega (arith, lt, length-below n)) ∙ ap (compiled_steps r p) (get_or-below n h 0 lt))

pub groups_after : (r : RosterData) (p : PolicyData) → drop (length r.hospitals) (node_steps r p) ≡ p.groups.steps
groups_after r p =
    let n = length r.hospitals in
    let own = map (compiled_steps r p) (below n) in
    let wide : length own ≡ n = length-map (below n) (compiled_steps r p) ∙ length-below n in
    ap (λ (k : ℕ). drop k (own ++ p.groups.steps)) (sym wide) ∙ drop_past own p.groups.steps

abbrev hospital_node : (ℕ → List ℤ) → ℕ → Node
hospital_node steps h = record { leaves = h ∷ []; steps = steps h }

nodes_same : (r : RosterData) (p : PolicyData) (n : ℕ) → n ≡ length r.hospitals → hospital_nodes n (λ h. get_or (node_steps r p) h []) ≡ hospital_nodes n (compiled_steps r p)
nodes_same r p n same =
    map_below (hospital_node (λ h. get_or (node_steps r p) h [])) (hospital_node (compiled_steps r p)) n
    (λ h lt. ap (λ (steps : List ℤ). record { leaves = h ∷ []; steps = steps }) (own_at r p h (omega (arith, lt, same))))

pub same_board : (r : RosterData) (p : PolicyData) (t : TieRule) → IsRoster r → IsRuleOf p t
    → built_board r.ranks (record { hospitals = length r.hospitals; groups = p.groups.members }) (node_steps r p) (order_of r.ranks t) ≡ compiled_board r p
unfolding compiled_board
same_board r p t roster e = rw (nodes_same r p (length r.ranks) roster.rank_each, groups_after r p, rule_order r p t e) refl

pub board_made : (r : RosterData) (p : PolicyData) (tree : TreeOf) (steps : List (List ℤ)) (t : TieRule) (board : Board) → IsRoster r → IsRuleOf p t
    → tree ≡ record { hospitals = length r.hospitals; groups = p.groups.members } → tree_fault p.groups.members ≡ None → steps ≡ node_steps r p
    → fault_of r.ranks t ≡ None → board ≡ built_board r.ranks tree steps (order_of r.ranks t)
    → (first_of (board_checks r p) ≡ None) × (board ≡ compiled_board r p)
board_made r p tree steps t board roster e tree_is quiet steps_are still made = (
  rw (quiet, ← rule_fault r p t e, still) refl,
  made ∙ rw (tree_is, steps_are) (same_board r p t roster e),
)

-- ---- the steps of the groups, one after the other

pub group_pushed : (old now new all : List (List ℤ)) (g : ℕ) (own steps : List ℤ) → now ≡ old ++ take g all → new ≡ now ++ own ∷ [] → own ≡ steps → slice_get all g ≡ Some steps → new ≡ old ++ take (g + 1) all
group_pushed old now new all g own steps before pushed same at =
    let lt = slice_get_within all g steps at in
    rw (pushed, before, take_more all g [] lt, get_or_from_slice_get all g steps [] at, same) (append_assoc old (take g all) (steps ∷ []))
