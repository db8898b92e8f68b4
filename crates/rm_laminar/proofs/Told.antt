-- Chains tell the groups that they were built of.
use Rattle.std.proofs.Common.{◌≡◌, ◌∙◌, ℕ, zero, suc, ◌+◌, ◌-◌, ◌<◌, ◌≤◌, List, [], ◌∷◌, ◌++◌, Bool, get_or, length, map, refl, sym, ap, ⊎_elim, arith, length-append, fold, max, Vec, All}
use Rattle.std.specs.Prelude.{slice_index}
use Rattle.std.proofs.lemmas.Bool.{cases_lt, lt-ltb}
use Rattle.std.proofs.lemmas.List.{length-map, get_or-map, get_or_append_left, get_or-append-add, get_or-reverse}
use Rattle.rm_sets.specs.Sets.{has, IsSetBelow, all_below}
use Rattle.rm_sets.proofs.Members.{all_below_has}
use Rattle.std.specs.declared.alloc.Global.{Global}
use Rattle.std.specs.List.{slice_get}
use Rattle.std.proofs.lemmas.List.{map-append}
use Rattle.std.proofs.lemmas.List.Elements.{All-map, All-get_or}
use Rattle.rm_market.specs.Tree.{below, set_of, least, sets_of_tree, tree_sets, chain, parent, depth, TreeOf}
use Rattle.rm_laminar.specs.Chains.{chain_lists, AreChains, AreHospitalGroups}
use Rattle.rm_laminar.specs.Tree.{groups_in, told, IsTreeKept}
use Rattle.rm_laminar.proofs.ListOfLists.{lists-length}
use Rattle.rm_laminar.proofs.Laminar.{Holds, chain-same, holds-chain}
use Rattle.rm_laminar.proofs.Firsts.{least-there}
use Rattle.rm_laminar.specs.Walk.{around, nodes_from, root}
use Rattle.rm_laminar.proofs.Parents.{around-is}
use Rattle.rm_laminar.proofs.Trees.{length-below, get-below, tree-length, set-hospital, set-group}

same_lists : {X : Type 0} (xs ys : List X) (d : X) → length xs ≡ length ys → ((k : ℕ) → k < length ys → get_or xs k d ≡ get_or ys k d) → xs ≡ ys
same_lists {X = X} [] [] d e h = refl
same_lists {X = X} [] (y ∷ ys) d e h = absurd (omega arith)
same_lists {X = X} (x ∷ xs) [] d e h = absurd (omega arith)
same_lists {X = X} (x ∷ xs) (y ∷ ys) d e h =
    let head : x ≡ y = h 0 (omega arith) in
    rw (head, same_lists xs ys d (omega arith) (λ k lt. h (suc k) (omega arith))) refl

same_below : (n : ℕ) (p q : ℕ → Bool) → ((h : ℕ) → h < n → p h ≡ q h) → all_below n p ≡ all_below n q
same_below zero p q h = refl
same_below (suc n) p q h = rw (same_below n p q (λ k lt. h k (omega arith)), h n (omega arith)) refl

group-told : (hospitals : ℕ) (groups chains : List (List ℕ)) (g : ℕ) → AreHospitalGroups hospitals groups → AreChains hospitals groups chains → g < length groups
    → all_below hospitals (λ h. has (hospitals + g) (get_or chains h [])) ≡ get_or groups g []
group-told hospitals groups chains g gs c lt =
    same_below hospitals (λ h. has (hospitals + g) (get_or chains h [])) (λ h. has h (get_or groups g []))
    (λ h less. (c.chains h less).each (hospitals + g) ∙ rw (lt-ltb (hospitals + g) (length (tree_sets hospitals groups)) (rw tree-length (omega arith)), set-group hospitals groups g) refl)
    ∙ all_below_has hospitals (get_or groups g []) (gs.sets g lt)

pub told-is : (hospitals nodes : ℕ) (groups chains : List (List ℕ)) → AreHospitalGroups hospitals groups → AreChains hospitals groups chains → nodes ≡ hospitals + length groups
    → told nodes chains ≡ record { hospitals = hospitals; groups = groups }
unfolding told
told-is hospitals nodes groups chains gs c e =
    let count : nodes - hospitals ≡ length groups = omega arith in
    let same : groups_in nodes chains ≡ groups = rw (c.each_hospital, count) (same_lists (map (λ g. all_below hospitals (λ h. has (hospitals + g) (get_or chains h []))) (below (length groups))) groups []
    (rw (length-map, length-below) refl)
    (λ g lt. get_or-map (λ (g : ℕ). all_below hospitals (λ h. has (hospitals + g) (get_or chains h []))) (below (length groups)) g 0 [] (rw length-below lt)
    ∙ rw (get-below (length groups) g 0 lt) (group-told hospitals groups chains g gs c lt)))
    in
    rw (same, c.each_hospital) refl

pub kept : (hospitals : ℕ) (groups chains : List (List ℕ)) (firsts : List ℕ) → AreHospitalGroups hospitals groups → AreChains hospitals groups chains → firsts ≡ below hospitals ++ map (λ g. slice_index g 0) groups
    → (told (length firsts) chains ≡ record { hospitals = hospitals; groups = groups }) × IsTreeKept (told (length firsts) chains) chains firsts
kept hospitals groups chains firsts gs c is =
    let nodes : length firsts ≡ hospitals + length groups = ap length is ∙ rw (length-append (below hospitals) (map (λ g. slice_index g 0) groups), length-below, length-map) refl in
    let same = told-is hospitals (length firsts) groups chains gs c nodes in (
      same,
      rw same (record {
        groups = gs;
        built = c;
        nodes = nodes;
        firsts_are = λ k lt. ap (λ (xs : List ℕ). get_or xs k 0) is ∙ ⊎_elim
            (λ (less : k < hospitals). get_or_append_left (below hospitals) (map (λ g. slice_index g 0) groups) 0 k (rw length-below less) ∙ get-below hospitals k 0 less ∙ sym (ap (λ (S : List ℕ). slice_index S 0) (set-hospital hospitals groups k less)))
            (λ (le : hospitals ≤ k). past k le (rw nodes at lt))
            (cases_lt k hospitals);
      }),
    )
  where
    past : (k : ℕ) → hospitals ≤ k → k < hospitals + length groups → get_or (below hospitals ++ map (λ g. slice_index g 0) groups) k 0 ≡ least (tree_sets hospitals groups) k
    past k le lt =
        let place : k ≡ length (below hospitals) + (k - hospitals) = rw length-below (omega arith) in
        let node : k ≡ hospitals + (k - hospitals) = omega arith in
        ap (λ (j : ℕ). get_or (below hospitals ++ map (λ g. slice_index g 0) groups) j 0) place
        ∙ get_or-append-add (below hospitals) (map (λ g. slice_index g 0) groups) (k - hospitals) 0
        ∙ get_or-map (λ (g : List ℕ). slice_index g 0) groups (k - hospitals) [] 0 (omega arith)
        ∙ sym (ap (λ (S : List ℕ). slice_index S 0) (ap (set_of (tree_sets hospitals groups)) node ∙ set-group hospitals groups (k - hospitals)))

-- ---- what a tree's calls say of what it keeps

pub nodes-count : (t : TreeOf) (chains : List (List ℕ)) (firsts : List ℕ) → IsTreeKept t chains firsts → length firsts ≡ length (sets_of_tree t)
nodes-count t chains firsts k = k.nodes ∙ sym (tree-length t.hospitals t.groups)

pub kept-chain : (t : TreeOf) (chains : List (List ℕ)) (firsts : List ℕ) (h : ℕ) → IsTreeKept t chains firsts → h < t.hospitals → get_or chains h [] ≡ chain (sets_of_tree t) h
kept-chain t chains firsts h k lt = chain-same (sets_of_tree t) k.built.laminar h (get_or chains h []) (k.built.chains h lt)

-- the least hospital of a node is one of its own
pub kept-first : (t : TreeOf) (chains : List (List ℕ)) (firsts : List ℕ) (k : ℕ) → IsTreeKept t chains firsts → k < length (sets_of_tree t) → Holds (sets_of_tree t) (get_or firsts k 0) k × (get_or firsts k 0 < t.hospitals)
kept-first t chains firsts k kept lt =
    let count = nodes-count t chains firsts kept in
    let first = kept.firsts_are k (omega (arith, lt, count)) in
    let there = least-there t.hospitals t.groups chains k kept.groups kept.built lt in
    (record { node = lt; has_leaf = rw first there.0 }, rw first there.1)

pub groups-are : (hospitals : ℕ) (groups : List (Vec ℕ Global)) → hospitals ≤ 10000 → length groups ≤ 5000 → All (λ g. IsSetBelow hospitals g.items) groups → AreHospitalGroups hospitals (chain_lists groups)
groups-are hospitals groups few_h few_g sets = record {
  few_hospitals = few_h;
  few_groups = rw lists-length few_g;
  sets = λ g lt. All-get_or (IsSetBelow hospitals) (chain_lists groups) g [] lt (All-map (IsSetBelow hospitals) (λ (v : Vec ℕ Global). v.items) groups sets);
}

same-depth : (p q : ℕ → ℕ) (n : ℕ) → ((h : ℕ) → h < n → p h ≡ q h) → map p (below n) ≡ map q (below n)
same-depth p q zero e = refl
same-depth p q (suc n) e = rw (map-append p (below n) (n ∷ []), map-append q (below n) (n ∷ []), same-depth p q n (λ h lt. e h (omega arith)), e n (omega arith)) refl

pub kept-depth : (t : TreeOf) (chains : List (List ℕ)) (firsts : List ℕ) → IsTreeKept t chains firsts → fold max 0 (map (λ h. length (get_or chains h [])) (below (length chains))) ≡ depth (sets_of_tree t) t.hospitals
unfolding depth
kept-depth t chains firsts k = rw k.built.each_hospital (ap (fold max 0) (same-depth (λ h. length (get_or chains h [])) (λ h. length (chain (sets_of_tree t) h)) t.hospitals (λ h lt. ap length (kept-chain t chains firsts h k lt))))

-- a node and those outside it, in the chain of its least hospital
pub kept-around : (t : TreeOf) (chains : List (List ℕ)) (firsts : List ℕ) (k : ℕ) → IsTreeKept t chains firsts → k < length (sets_of_tree t) → nodes_from k (get_or chains (get_or firsts k 0) []) ≡ around (sets_of_tree t) k
kept-around t chains firsts k kept lt =
    let first = kept-first t chains firsts k kept lt in
    let each = kept.built.chains (get_or firsts k 0) first.1 in
    around-is (sets_of_tree t) kept.built.laminar (get_or firsts k 0) k (get_or chains (get_or firsts k 0) []) each (holds-chain (sets_of_tree t) (get_or firsts k 0) k (get_or chains (get_or firsts k 0) []) each first.0)

pub parent-around : (sets : List (List ℕ)) (k : ℕ) → slice_get (around sets k) 1 ≡ parent sets k
unfolding around parent
parent-around sets k = refl

pub around-some : (sets : List (List ℕ)) (k : ℕ) → 1 ≤ length (around sets k)
unfolding around
around-some sets k = omega arith

pub root-around : (sets : List (List ℕ)) (k : ℕ) → get_or (around sets k) (length (around sets k) - 1) 0 ≡ root sets k
unfolding root
root-around sets k =
    let last : length (around sets k) - 1 - 0 ≡ length (around sets k) - 1 = omega arith in
    sym (get_or-reverse (around sets k) 0 0 (let some = around-some sets k in omega (arith, some)) ∙ ap (λ (i : ℕ). get_or (around sets k) i 0) last)

-- the least hospitals of the nodes, by number
pub kept-firsts : (hospitals : ℕ) (groups chains : List (List ℕ)) (firsts : List ℕ) → AreHospitalGroups hospitals groups → AreChains hospitals groups chains → firsts ≡ below hospitals ++ map (λ g. slice_index g 0) groups
    → (length firsts ≡ hospitals + length groups) × ((k : ℕ) → k < length firsts → get_or firsts k 0 ≡ least (tree_sets hospitals groups) k)
kept-firsts hospitals groups chains firsts gs c is =
    let k = kept hospitals groups chains firsts gs c is in
    let good : IsTreeKept (record { hospitals = hospitals; groups = groups }) chains firsts = rw k.0 at k.1 in
    (good.nodes, good.firsts_are)
