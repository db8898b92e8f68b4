-- Rank lists, steps that never rise, groups that don't cross and a tie order make a board.
use Rattle.std.proofs.Common.{◌≡◌, ℕ, zero, suc, ◌+◌, ◌<◌, Bool, true, false, not, ◌&&◌, List, [], ◌∷◌, ◌++◌, length, map, get_or, replicate, ℤ, pos, Some, refl, sym, ap, ap₂, ◌∙◌, subst, ⊎_elim, arith, All, AllPairs, IsFalse, append_assoc}
use Rattle.std.specs.Prelude.{slice_get}
use Rattle.std.proofs.lemmas.Int.{ints}
use Rattle.std.proofs.lemmas.Bool.{cases_lt}
use Rattle.std.proofs.lemmas.List.{length-map, map-append}
use Rattle.std.proofs.lemmas.List.Elements.{All-append, All-map, All-nil, All-cons, All-head, All-tail, All-replicate}
use Rattle.std.proofs.lemmas.List.Kept.{AllPairs-cons}
use Rattle.std.proofs.lemmas.Simd.{map-map}
use Rattle.rm_sets.specs.Sets.{has, IsIn, IsSet, common, minus, below}
use Rattle.rm_sets.proofs.Sets.{not_both, cases_has, below-all_below, IsSet-cons, IsSet-nil, IsIn-here, IsIn-cases}
use Rattle.rm_sets.proofs.Members.{not_in_nil, IsIn-from_common, IsIn-from_minus, All-from_members}
use Rattle.rm_sets.proofs.Once.{length-below}
use Rattle.rm_market.specs.Board.{Node, Board, IsBoard, IsFalling, IsNodeOf, IsTieOrder, leaf_of, hospital_of, pairs_of, crosses, is_empty}
use Rattle.rm_market.specs.Ties.{by_rank}
use Rattle.rm_board_laws.specs.HospitalBoards.{hospital_nodes, hospital_board, group_nodes, AreListsBelow, AreGroups, HospitalsMakeBoards, PlainMarkets, AcceptedMarkets, AcceptedTrees}
use Rattle.rm_board_laws.proofs.Groups.{accepted_groups}
use Rattle.rm_board_laws.proofs.TieOrders.{rank_ties}

-- ---- a single hospital crosses nothing

no_members : (S : List ℕ) → ((x : ℕ) → IsIn x S → ⊥) → S ≡ []
no_members [] h = refl
no_members (y ∷ S) h = absurd (h y (IsIn-here y S))

only_member : (h x : ℕ) → IsIn x (h ∷ []) → x ≡ h
only_member h x i = ⊎_elim (λ e. e) (λ none. absurd (not_in_nil x none)) (IsIn-cases x h [] i)

no_common : (A B : List ℕ) → common A B ≡ [] → crosses A B ≡ false
no_common A B e = rw e (off (not (is_empty (minus A B))) (not (is_empty (minus B A))))
  where
    off : (u v : Bool) → ((false && u) && v) ≡ false
    off u v = refl

no_rest : (A B : List ℕ) → minus A B ≡ [] → crosses A B ≡ false
no_rest A B e = rw e (off (not (is_empty (common A B))) (not (is_empty (minus B A))))
  where
    off : (u v : Bool) → ((u && false) && v) ≡ false
    off true v = refl
    off false v = refl

single_uncrossed : (h : ℕ) (B : List ℕ) → crosses (h ∷ []) B ≡ false
single_uncrossed h B =
    ⊎_elim
    (λ i. no_rest (h ∷ []) B (no_members (minus (h ∷ []) B) (λ x ix. let both = IsIn-from_minus (h ∷ []) B x ix in not_both (has x B) (subst (λ z. IsIn z B) (sym (only_member h x both.0)) i) both.1)))
    (λ out. no_common (h ∷ []) B (no_members (common (h ∷ []) B) (λ x ix. let both = IsIn-from_common (h ∷ []) B x ix in not_both (has h B) (subst (λ z. IsIn z B) (only_member h x both.0) both.1) out)))
    (cases_has h B)

-- ---- elements of lists

at_length : {A : Type 0} (L M : List A) (x : A) → slice_get (L ++ (x ∷ M)) (length L) ≡ Some x
at_length [] M x = refl
at_length (y ∷ L) M x = at_length L M x

-- R holds of each element of the first list and anything
pairs_append : {A : Type 0} (R : A → A → Type 0) (xs ys : List A) → All (λ x. (y : A) → R x y) xs → AllPairs R ys → AllPairs R (xs ++ ys)
pairs_append R [] ys any h = h
pairs_append R (x ∷ xs) ys any h =
    AllPairs-cons R x (xs ++ ys) (λ k d lt. any zero x (omega arith) (get_or (xs ++ ys) k d))
    (pairs_append R xs ys (λ k d lt. any (suc k) d (omega arith)) h)

-- ---- the nodes

abbrev hospital_node : (ℕ → List ℤ) → ℕ → Node
hospital_node steps h = record { leaves = h ∷ []; steps = steps h }

nodes_long : (steps : ℕ → List ℤ) (n : ℕ) → length (hospital_nodes n steps) ≡ n
nodes_long steps n = length-map (below n) (hospital_node steps) ∙ length-below n

nodes_more : (steps : ℕ → List ℤ) (n : ℕ) (M : List Node) → hospital_nodes (suc n) steps ++ M ≡ hospital_nodes n steps ++ (hospital_node steps n ∷ M)
nodes_more steps n M = simp (map-append, append_assoc)

node_here : (steps : ℕ → List ℤ) (n h : ℕ) (M : List Node) → h < n → slice_get (hospital_nodes n steps ++ M) h ≡ Some (hospital_node steps h)
node_here steps zero h M lt = absurd (omega arith)
node_here steps (suc n) h M lt =
    subst (λ L. slice_get L h ≡ Some (hospital_node steps h)) (sym (nodes_more steps n M))
    (⊎_elim
    (λ less. node_here steps n h (hospital_node steps n ∷ M) less)
    (λ le.
    let e : length (hospital_nodes n steps) ≡ h = nodes_long steps n ∙ (let same : n ≡ h = omega arith in same) in
    let same : n ≡ h = omega arith in
    subst (λ k. slice_get (hospital_nodes n steps ++ (hospital_node steps n ∷ M)) k ≡ Some (hospital_node steps h)) e
    (at_length (hospital_nodes n steps) M (hospital_node steps n) ∙ ap (λ k. Some (hospital_node steps k)) same))
    (cases_lt h n))

each_node : (P : Node → Type 0) (steps : ℕ → List ℤ) (n : ℕ) → ((h : ℕ) → h < n → P (hospital_node steps h)) → All P (hospital_nodes n steps)
each_node P steps n f =
    All-map P (hospital_node steps) (below n)
    (All-from_members (λ h. P (hospital_node steps h)) (below n) (λ h i. f h (below-all_below n (λ k. true) h i).0))

-- ---- the board

leaf_is_hospital : (pairs : List (ℕ × ℕ)) (x : ℕ) → get_or (map (λ (c : ℕ × ℕ). c.1) pairs) x 0 ≡ (get_or pairs x (0, 0)).1
leaf_is_hospital [] x = refl
leaf_is_hospital (c ∷ pairs) zero = refl
leaf_is_hospital (c ∷ pairs) (suc x) = leaf_is_hospital pairs x

module _ (ranks : List (List ℕ)) (steps : ℕ → List ℤ) (groups : List Node) (ties : List ℕ) where
  abbrev the_board : Board
  the_board = hospital_board ranks steps groups ties

  leaf_at : (x : ℕ) → leaf_of the_board x ≡ hospital_of the_board x
  leaf_at x = leaf_is_hospital (pairs_of ranks) x

  node_of : (h : ℕ) → IsNodeOf the_board h (hospital_node steps h)
  node_of h x lt = (
    λ i. sym (leaf_at x) ∙ only_member h (leaf_of the_board x) i,
    λ e. subst (λ z. IsIn z (h ∷ [])) (sym (leaf_at x ∙ e)) (IsIn-here h []),
  )

  is_board : (doctors : ℕ) → AreListsBelow doctors ranks → ((h : ℕ) → h < length ranks → IsFalling (steps h)) → AreGroups groups → IsTieOrder ranks ties → IsBoard doctors the_board
  is_board doctors ranked falling g t = record {
    ranked = ranked;
    leaves = length-map (pairs_of ranks) (λ (c : ℕ × ℕ). c.1);
    sets = All-append (λ n. IsSet n.leaves) (hospital_nodes (length ranks) steps) groups
        (each_node (λ n. IsSet n.leaves) steps (length ranks) (λ h lt. IsSet-cons h [] (λ y i. absurd (not_in_nil y i)) IsSet-nil)) g.sets;
    hospitals = λ h lt. (h, hospital_node steps h, node_here steps (length ranks) h groups lt, node_of h);
    laminar = pairs_append (λ m n. IsFalse (crosses m.leaves n.leaves)) (hospital_nodes (length ranks) steps) groups
        (each_node (λ m. (n : Node) → IsFalse (crosses m.leaves n.leaves)) steps (length ranks) (λ h lt n. single_uncrossed h n.leaves)) g.laminar;
    concave = All-append (λ n. IsFalling n.steps) (hospital_nodes (length ranks) steps) groups (each_node (λ n. IsFalling n.steps) steps (length ranks) falling) g.concave;
    ties = t;
  }

pub hospitals_make_boards : HospitalsMakeBoards
hospitals_make_boards doctors ranks steps groups ties = is_board ranks steps groups ties doctors

-- ---- the plain market

pub zeros_fall : (c : ℕ) → IsFalling (replicate c (pos 0))
zeros_fall c k d lt =
    let zeros = All-replicate (λ z. z ≡ pos 0) c (pos 0) refl in
    let here : get_or (replicate c (pos 0)) k d ≡ pos 0 = zeros k d (omega arith) in
    let next : get_or (replicate c (pos 0)) (k + 1) d ≡ pos 0 = zeros (k + 1) d lt in
    omega (arith, ints)

no_groups : AreGroups []
no_groups = record { sets = All-nil (λ g. IsSet g.leaves); laminar = λ i j d lt ll. absurd (omega arith); concave = All-nil (λ g. IsFalling g.steps) }

pub plain_markets : PlainMarkets
plain_markets ranks capacities lists ranked listed = record {
  board = hospitals_make_boards (length lists) ranks (λ h. replicate (get_or capacities h 0) (pos 0)) [] (by_rank ranks) ranked (λ h lt. zeros_fall (get_or capacities h 0)) no_groups (rank_ties ranks);
  lists = listed;
}

-- ---- groups as nodes

pairs_head : (R : List ℕ → List ℕ → Type 0) (x : List ℕ) (xs : List (List ℕ)) → AllPairs R (x ∷ xs) → All (R x) xs
pairs_head R x xs h k d lt = h zero (suc k) d (omega arith) (omega arith)

pairs_tail : (R : List ℕ → List ℕ → Type 0) (x : List ℕ) (xs : List (List ℕ)) → AllPairs R (x ∷ xs) → AllPairs R xs
pairs_tail R x xs h i j d lt ll = h (suc i) (suc j) d (omega arith) (omega arith)

each_set : (P : List ℕ → Type 0) (sets : List (List ℕ)) (steps : List (List ℤ)) → All P sets → All (λ g. P g.leaves) (group_nodes sets steps)
each_set P [] steps h = All-nil (λ g. P g.leaves)
each_set P (set ∷ sets) [] h = All-nil (λ g. P g.leaves)
each_set P (set ∷ sets) (s ∷ steps) h =
    All-cons (λ g. P g.leaves) (record { leaves = set; steps = s }) (group_nodes sets steps) (All-head P set sets h) (each_set P sets steps (All-tail P set sets h))

each_steps : (sets : List (List ℕ)) (steps : List (List ℤ)) → All IsFalling steps → All (λ g. IsFalling g.steps) (group_nodes sets steps)
each_steps [] steps h = All-nil (λ g. IsFalling g.steps)
each_steps (set ∷ sets) [] h = All-nil (λ g. IsFalling g.steps)
each_steps (set ∷ sets) (s ∷ steps) h =
    All-cons (λ g. IsFalling g.steps) (record { leaves = set; steps = s }) (group_nodes sets steps) (All-head IsFalling s steps h) (each_steps sets steps (All-tail IsFalling s steps h))

abbrev AreApart : List ℕ → List ℕ → Type 0
AreApart A B = IsFalse (crosses A B)

each_pair : (sets : List (List ℕ)) (steps : List (List ℤ)) → AllPairs AreApart sets → AllPairs (λ g h. IsFalse (crosses g.leaves h.leaves)) (group_nodes sets steps)
each_pair [] steps h = λ i j d lt ll. absurd (omega arith)
each_pair (set ∷ sets) [] h = λ i j d lt ll. absurd (omega arith)
each_pair (set ∷ sets) (s ∷ steps) h =
    AllPairs-cons (λ g h. IsFalse (crosses g.leaves h.leaves)) (record { leaves = set; steps = s }) (group_nodes sets steps)
    (each_set (AreApart set) sets steps (pairs_head AreApart set sets h))
    (each_pair sets steps (pairs_tail AreApart set sets h))

pub accepted_markets : AcceptedMarkets
accepted_markets ranks steps sets group_steps ties lists ranked listed falling are_sets accepted group_falling t = record {
  board = hospitals_make_boards (length lists) ranks steps (group_nodes sets group_steps) ties ranked falling
      (record {
        sets = each_set IsSet sets group_steps are_sets;
        laminar = each_pair sets group_steps ((accepted_groups sets).0 accepted).laminar;
        concave = each_steps sets group_steps group_falling;
      })
      t;
  lists = listed;
}

-- ---- the sets of the nodes

sets_from : (sets : List (List ℕ)) (steps : List (List ℤ)) → length sets ≡ length steps → map (λ (n : Node). n.leaves) (group_nodes sets steps) ≡ sets
sets_from [] steps e = refl
sets_from (set ∷ sets) [] e = absurd (omega arith)
sets_from (set ∷ sets) (s ∷ steps) e = ap (λ L. set ∷ L) (sets_from sets steps (omega arith))

pub accepted_trees : AcceptedTrees
accepted_trees ranks steps sets group_steps ties e =
    map-append (λ (n : Node). n.leaves) (hospital_nodes (length ranks) steps) (group_nodes sets group_steps)
    ∙ ap₂ (λ A B. A ++ B) (map-map (λ (n : Node). n.leaves) (hospital_node steps) (below (length ranks))) (sets_from sets group_steps e)
