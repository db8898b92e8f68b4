-- Groups of consecutive hospitals, and trees without groups.
use Rattle.std.proofs.Common.{◌≡◌, ◌∙◌, ap, subst, ℕ, ◌+◌, ◌<◌, ◌≤◌, List, [], ◌∷◌, length, map, get_or, length-append, arith}
use Rattle.std.proofs.lemmas.List.{length-map}
use Rattle.rm_sets.specs.Sets.{IsSetBelow}
use Rattle.rm_sets.proofs.Members.{place_from_IsIn}
use Rattle.rm_sets.proofs.Once.{length-below}
use Rattle.rm_market.specs.Tree.{below, sets_of_tree, tree_sets, TreeOf}

-- consecutive numbers below 10,000 are a set
pub row-set : (start end : ℕ) (group : List ℕ) → ((k : ℕ) → k < length group → get_or group k 0 ≡ start + k) → ((k : ℕ) → k < length group → start + k < end) → end ≤ 10_000 → IsSetBelow 10_000 group
row-set start end group items within most = record {
  ascending = λ k lt.
      let this : get_or group k 0 ≡ start + k = items k (omega arith) in
      let next : get_or group (k + 1) 0 ≡ start + (k + 1) = items (k + 1) lt in
      omega arith;
  below = λ x i.
      let p = place_from_IsIn group x 0 i in
      let lt : get_or group p.0 0 < 10_000 = (let this = items p.0 p.1 in let less = within p.0 p.1 in omega arith) in
      subst (λ (y : ℕ). y < 10_000) p.2 lt;
}

-- each hospital is a node
nodes-of : (n : ℕ) → length (tree_sets n []) ≡ n
nodes-of n = omega (arith, length-append (map (λ h. h ∷ []) (below n)) [], length-map {B = List ℕ} (below n) (λ h. h ∷ []), length-below n)

-- a tree without groups has no other nodes
pub nodes-alone : (t : TreeOf) (n : ℕ) → t ≡ record { hospitals = n; groups = [] } → length (sets_of_tree t) ≡ n
nodes-alone t n same = ap (λ (u : TreeOf). length (sets_of_tree u)) same ∙ nodes-of n
