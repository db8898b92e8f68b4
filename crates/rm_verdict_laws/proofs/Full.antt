-- The innermost full node of a contract, which there is exactly where the contract can't be added.
use Rattle.std.proofs.Common.{◌≡◌, ℕ, ◌+◌, ◌<◌, ◌≤◌, List, length, Bool, true, false, Some, eqb, count_by, refl, sym, subst, ⊎_elim, arith, eqb-true, eq-eqb}
use Rattle.std.specs.Prelude.{filter}
use Rattle.std.proofs.lemmas.Bool.{ltb-true}
use Rattle.std.proofs.lemmas.List.{length-map}
use Rattle.rm_sets.specs.Sets.{has, IsIn, with_one, below}
use Rattle.rm_sets.proofs.Sets.{not_both, below-all_below}
use Rattle.rm_sets.proofs.Members.{IsIn-all_below, IsIn-filter, IsIn-from_filter}
use Rattle.rm_market.specs.Board.{Board, leaf_of, cap_of, is_feasible, node_at, count_at, sets_of}
use Rattle.rm_market.specs.Tree.{set_of, chain, is_inside}
use Rattle.rm_market.specs.Certificate.{innermost_full}
use Rattle.rm_valuation_laws.specs.Changes.{IsConcaveBoard, in_node}
use Rattle.rm_valuation_laws.proofs.Counts.{one, count-with_one}
use Rattle.rm_valuation_laws.proofs.Order.{set_is, inside_trans, comparable}
use Rattle.rm_verdict_laws.specs.Rows.{IsFullNode, IsInnermostFull}
use Rattle.rm_verdict_laws.proofs.First.{none_passes}
use Rattle.rm_verdict_laws.proofs.Over.{cap_kept, infeasible_over}
use Rattle.rm_verdict_laws.proofs.Swaps.{cases_option}
use Rattle.rm_verdict_laws.proofs.Sorted.{IsOrderOf, found_first, order_keeps}

-- ---- the nodes of a contract

record IsNodeOf (b : Board) (x k : ℕ) : Type 0 where
  node : k < length b.nodes
  inside : IsIn (leaf_of b x) (node_at b k).leaves

nodes_in_order : (b : Board) (x : ℕ) → IsConcaveBoard b → IsOrderOf (IsNodeOf b x) (is_inside (sets_of b))
nodes_in_order b x ok = record {
  transitive = λ k l a pk pl pa. inside_trans b k l a;
  total = λ k l pk pl. comparable b ok k l x pk.node pl.node pk.inside pl.inside;
}

abbrev has_leaf : Board → ℕ → ℕ → Bool
has_leaf b x k = has (leaf_of b x) (set_of (sets_of b) k)

abbrev nodes_of : Board → ℕ → List ℕ
nodes_of b x = filter (has_leaf b x) (below (length (sets_of b)))

sets_count : (b : Board) → length (sets_of b) ≡ length b.nodes
sets_count b = simp length-map

node_from_member : (b : Board) (x k : ℕ) → IsIn k (nodes_of b x) → IsNodeOf b x k
node_from_member b x k i =
    let parts = IsIn-from_filter (has_leaf b x) (below (length (sets_of b))) k i in
    let lt : k < length b.nodes = subst (λ n. k < n) (sets_count b) (below-all_below (length (sets_of b)) (λ j. true) k parts.0).0 in
    record { node = lt; inside = subst (λ L. IsIn (leaf_of b x) L) (set_is b k) parts.1 }

member_from_node : (b : Board) (x k : ℕ) → IsNodeOf b x k → IsIn k (nodes_of b x)
member_from_node b x k h =
    IsIn-filter (has_leaf b x) (below (length (sets_of b))) k
    (IsIn-all_below (length (sets_of b)) (λ j. true) k (subst (λ n. k < n) (sym (sets_count b)) h.node) refl)
    (subst (λ L. IsIn (leaf_of b x) L) (sym (set_is b k)) h.inside)

-- ---- the innermost full one

abbrev is_full : Board → List ℕ → ℕ → Bool
is_full b S k = eqb (count_at b S k) (cap_of (node_at b k))

pub innermost_found : (b : Board) (S : List ℕ) (x k : ℕ) → IsConcaveBoard b → innermost_full b S x ≡ Some k → IsInnermostFull b S x k
unfolding innermost_full chain
innermost_found b S x k ok e =
    let h = found_first (IsNodeOf b x) (is_inside (sets_of b)) (is_full b S) (nodes_of b x) k (nodes_in_order b x ok) (node_from_member b x) e in
    let at = node_from_member b x k h.0 in
    record {
      node = record { node = at.node; inside = at.inside; full = eqb-true (count_at b S k) (cap_of (node_at b k)) h.1 };
      innermost = λ j f ne. ⊎_elim
          (λ same. absurd (ne (sym same)))
          (λ t. t)
          (h.2 j (member_from_node b x j (record { node = f.node; inside = f.inside })) (eq-eqb (count_at b S j) (cap_of (node_at b j)) f.full));
    }

pub some_innermost : (b : Board) (S : List ℕ) (x j : ℕ) → IsFullNode b S x j → (k : ℕ) × (innermost_full b S x ≡ Some k)
unfolding innermost_full chain
some_innermost b S x j f =
    ⊎_elim
    (λ none. absurd (not_both (is_full b S j) (eq-eqb (count_at b S j) (cap_of (node_at b j)) f.full)
    (none_passes (is_full b S) (chain (sets_of b) (leaf_of b x)) none j
    (order_keeps (is_inside (sets_of b)) (nodes_of b x) j (member_from_node b x j (record { node = f.node; inside = f.inside }))))))
    (λ k. k)
    (cases_option (innermost_full b S x))

-- ---- where x can't be added, a node of x is full

pub full_node : (b : Board) (S : List ℕ) (x : ℕ) → is_feasible b S ≡ true → has x S ≡ false → is_feasible b (with_one S x) ≡ false → (k : ℕ) × IsFullNode b S x k
full_node b S x f out cant =
    let h = (infeasible_over b (with_one S x)).0 cant in
    let k = h.0 in
    let lt : k < length b.nodes = (below-all_below (length b.nodes) (λ j. true) k h.1.member).0 in
    (k, at k lt (in_node b (node_at b k) x) refl (ltb-true (cap_of (node_at b k)) (count_at b (with_one S x) k) h.1.passes) (count-with_one (in_node b (node_at b k)) S x out) (cap_kept b S f k lt))
  where
    at : (k : ℕ) → k < length b.nodes → (i : Bool) → in_node b (node_at b k) x ≡ i → cap_of (node_at b k) < count_at b (with_one S x) k →
        count_by (in_node b (node_at b k)) (with_one S x) ≡ count_by (in_node b (node_at b k)) S + one i → count_at b S k ≤ cap_of (node_at b k) → IsFullNode b S x k
    at k lt true t over e cap = record { node = lt; inside = t; full = omega arith }
    at k lt false t over e cap = absurd (omega arith)
