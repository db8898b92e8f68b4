-- The sets of a tree's nodes.
use Rattle.std.proofs.Common.{◌≡◌, ◌∙◌, ℕ, zero, suc, ◌+◌, ◌-◌, ◌<◌, List, [], ◌∷◌, ◌++◌, get_or, length, map, refl, sym, ap, ⊎_elim, arith, append_assoc, length-append}
use Rattle.std.proofs.lemmas.List.{length-map, get_or_append_left, get_or-append-add, get_or-map, get_or_past, get_or_push}
use Rattle.std.proofs.lemmas.Bool.{cases_lt}
use Rattle.rm_sets.specs.Sets.{IsSet, IsSetBelow}
use Rattle.rm_sets.proofs.Sets.{IsSet-nil, IsSet-cons}
use Rattle.rm_sets.proofs.Members.{not_in_nil}
use Rattle.rm_market.specs.Tree.{below, set_of, tree_sets}

pub length-below : (n : ℕ) → length (below n) ≡ n
length-below zero = refl
length-below (suc n) = length-append (below n) (n ∷ []) ∙ omega (arith, length-below n)

pub get-below : (n k d : ℕ) → k < n → get_or (below n) k d ≡ k
get-below zero k d lt = absurd (omega arith)
get-below (suc n) k d lt = ⊎_elim
    (λ less. get_or_append_left (below n) (n ∷ []) d k (rw length-below less) ∙ get-below n k d less)
    (λ le. let same : k ≡ n = omega arith in rw same (get_or_push (below n) n d n (length-below n)))
    (cases_lt k n)

pub tree-length : (hospitals : ℕ) (groups : List (List ℕ)) → length (tree_sets hospitals groups) ≡ hospitals + length groups
tree-length hospitals groups = rw (length-append (map (λ h. h ∷ []) (below hospitals)) groups, length-map, length-below) refl

hospitals-length : (hospitals : ℕ) → length (map (λ h. h ∷ []) (below hospitals)) ≡ hospitals
hospitals-length hospitals = rw (length-map, length-below) refl

pub set-hospital : (hospitals : ℕ) (groups : List (List ℕ)) (h : ℕ) → h < hospitals → set_of (tree_sets hospitals groups) h ≡ h ∷ []
set-hospital hospitals groups h lt =
    get_or_append_left (map (λ h. h ∷ []) (below hospitals)) groups [] h (rw hospitals-length lt)
    ∙ get_or-map (λ (h : ℕ). h ∷ []) (below hospitals) h 0 [] (rw length-below lt)
    ∙ ap (λ (k : ℕ). k ∷ []) (get-below hospitals h 0 lt)

pub set-group : (hospitals : ℕ) (groups : List (List ℕ)) (g : ℕ) → set_of (tree_sets hospitals groups) (hospitals + g) ≡ get_or groups g []
set-group hospitals groups g =
    let place : hospitals + g ≡ length (map (λ h. h ∷ []) (below hospitals)) + g = rw hospitals-length refl in
    rw place (get_or-append-add (map (λ h. h ∷ []) (below hospitals)) groups g [])

pub tree-push : (hospitals : ℕ) (groups : List (List ℕ)) (group : List ℕ) → tree_sets hospitals (groups ++ group ∷ []) ≡ tree_sets hospitals groups ++ group ∷ []
tree-push hospitals groups group = sym (append_assoc (map (λ h. h ∷ []) (below hospitals)) groups (group ∷ []))

pub push-old : (sets : List (List ℕ)) (B : List ℕ) (k : ℕ) → k < length sets → set_of (sets ++ B ∷ []) k ≡ set_of sets k
push-old sets B k lt = get_or_append_left sets (B ∷ []) [] k lt

pub push-new : (sets : List (List ℕ)) (B : List ℕ) → set_of (sets ++ B ∷ []) (length sets) ≡ B
push-new sets B = get_or_push sets B [] (length sets) refl

pub push-length : (sets : List (List ℕ)) (B : List ℕ) → length (sets ++ B ∷ []) ≡ length sets + 1
push-length sets B = length-append sets (B ∷ [])

single-set : (h : ℕ) → IsSet (h ∷ [])
single-set h = IsSet-cons h [] (λ y i. absurd (not_in_nil y i)) IsSet-nil

-- each node is a set
pub tree-are_sets : (hospitals : ℕ) (groups : List (List ℕ)) → ((g : ℕ) → g < length groups → IsSetBelow hospitals (get_or groups g [])) → (k : ℕ) → IsSet (set_of (tree_sets hospitals groups) k)
tree-are_sets hospitals groups sets k = ⊎_elim
    (λ less. rw (set-hospital hospitals groups k less) (single-set k))
    (λ le. let place : k ≡ hospitals + (k - hospitals) = omega arith in
    rw (place, set-group hospitals groups (k - hospitals)) (⊎_elim
    (λ lt. (sets (k - hospitals) lt).ascending)
    (λ past. rw (get_or_past groups (k - hospitals) [] past) IsSet-nil)
    (cases_lt (k - hospitals) (length groups))))
    (cases_lt k hospitals)
