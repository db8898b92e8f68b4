-- The nodes of a contract, as a tree gives them.
use Rattle.std.specs.List.{IsDistinct}
use Rattle.std.proofs.Common.{◌≡◌, ◌∙◌, ℕ, ◌+◌, ◌≤◌, List, [], ◌∷◌, Bool, true, false, cond, ◌&&◌, length, filter, eqb, ltb, refl, sym, ap, arith}
use Rattle.std.proofs.lemmas.Bool.{or_parts, and_parts, ltb-true, lt-ltb}
use Rattle.std.proofs.lemmas.List.{length-map}
use Rattle.std.proofs.lemmas.List.Sums.{length-filter, count_by-le-length}
use Rattle.rm_sets.specs.Sets.{has, below}
use Rattle.rm_sets.proofs.Sets.{IsSet-filter, IsSet-all_below}
use Rattle.rm_sets.proofs.Once.{distinct_of_set, length-below, distinct_none, distinct_one, distinct_first, distinct_rest, distinct_more}
use Rattle.rm_market.specs.Board.{Board, leaf_of, sets_of}
use Rattle.rm_market.specs.Tree.{put, in_order, chain, set_of, is_inside}
use Rattle.rm_laminar.proofs.Members.{flip}
use Rattle.rm_laminar.proofs.Order.{has-put, has-in_order}
use Rattle.rm_laminar.proofs.Laminar.{has-below}
use Rattle.rm_valuation_laws.specs.Changes.{IsChain}
use Rattle.rm_valuation_laws.proofs.Order.{set_is}

-- ---- a list in order has each number once, and as many

once_cond : (b : Bool) (xs ys : List ℕ) → IsDistinct eqb xs → IsDistinct eqb ys → IsDistinct eqb (cond b xs ys)
once_cond true xs ys p q = p
once_cond false xs ys p q = q

put_once : (first : ℕ → ℕ → Bool) (x : ℕ) (xs : List ℕ) → IsDistinct eqb xs → has x xs ≡ false → IsDistinct eqb (put first x xs)
put_once first x [] once out = distinct_one x
put_once first x (y ∷ ys) once out =
    let parts = or_parts (eqb x y) (has x ys) out in
    let other : eqb y x ≡ false = flip x y ∙ parts.0 in
    once_cond (first x y) (x ∷ y ∷ ys) (y ∷ put first x ys) (distinct_more x (y ∷ ys) out once)
    (distinct_more y (put first x ys) (has-put first x ys y ∙ rw (other, distinct_first y ys once) refl) (put_once first x ys (distinct_rest y ys once) parts.1))

in_order_once : (first : ℕ → ℕ → Bool) (xs : List ℕ) → IsDistinct eqb xs → IsDistinct eqb (in_order first xs)
in_order_once first [] once = distinct_none
in_order_once first (x ∷ xs) once = put_once first x (in_order first xs) (in_order_once first xs (distinct_rest x xs once)) (has-in_order first xs x ∙ distinct_first x xs once)

length_cond : (b : Bool) (xs ys : List ℕ) (n : ℕ) → length xs ≡ n → length ys ≡ n → length (cond b xs ys) ≡ n
length_cond true xs ys n p q = p
length_cond false xs ys n p q = q

length_put : (first : ℕ → ℕ → Bool) (x : ℕ) (xs : List ℕ) → length (put first x xs) ≡ length xs + 1
length_put first x [] = refl
length_put first x (y ∷ ys) =
    let rest = length_put first x ys in
    length_cond (first x y) (x ∷ y ∷ ys) (y ∷ put first x ys) (length (y ∷ ys) + 1) (omega arith) (omega arith)

length_in_order : (first : ℕ → ℕ → Bool) (xs : List ℕ) → length (in_order first xs) ≡ length xs
length_in_order first [] = refl
length_in_order first (x ∷ xs) = let one = length_put first x (in_order first xs) in let rest = length_in_order first xs in omega arith

-- ---- the chain of a leaf

pub chain_length : (sets : List (List ℕ)) (leaf : ℕ) → length (chain sets leaf) ≤ length sets
unfolding chain
chain_length sets leaf =
    let inside : List ℕ = filter (λ k. has leaf (set_of sets k)) (below (length sets)) in
    let e = length_in_order (is_inside sets) inside in
    let f = length-filter (λ k. has leaf (set_of sets k)) (below (length sets)) in
    let g = count_by-le-length (λ k. has leaf (set_of sets k)) (below (length sets)) in
    let n = length-below (length sets) in
    omega arith

has_chain : (sets : List (List ℕ)) (leaf k : ℕ) → has k (chain sets leaf) ≡ (ltb k (length sets) && has leaf (set_of sets k))
unfolding chain
has_chain sets leaf k =
    has-in_order (is_inside sets) (filter (λ j. has leaf (set_of sets j)) (below (length sets))) k
    ∙ has-below (length sets) k (λ j. has leaf (set_of sets j))

chain_once : (sets : List (List ℕ)) (leaf : ℕ) → IsDistinct eqb (chain sets leaf)
unfolding chain
chain_once sets leaf =
    let p : ℕ → Bool = λ k. has leaf (set_of sets k) in
    in_order_once (is_inside sets) (filter p (below (length sets))) (distinct_of_set (filter p (below (length sets))) (IsSet-filter p (below (length sets)) (IsSet-all_below (length sets) (λ k. true))))

chain_in : (b : Board) (x : ℕ) → IsChain b x (chain (sets_of b) (leaf_of b x))
chain_in b x =
    let same : length (sets_of b) ≡ length b.nodes = length-map b.nodes (λ n. n.leaves) in
    record {
      once = chain_once (sets_of b) (leaf_of b x);
      nodes = λ k h.
          let parts = and_parts (ltb k (length (sets_of b))) (has (leaf_of b x) (set_of (sets_of b) k)) (sym (has_chain (sets_of b) (leaf_of b x) k) ∙ h) in
          let lt = ltb-true k (length (sets_of b)) parts.0 in
          omega arith;
      all = λ k lt.
          has_chain (sets_of b) (leaf_of b x) k
          ∙ (ap (λ t. t && has (leaf_of b x) (set_of (sets_of b) k)) (lt-ltb k (length (sets_of b)) (omega arith))
          ∙ ap (has (leaf_of b x)) (set_is b k));
    }

pub chain_is : (b : Board) (x leaf : ℕ) (sets : List (List ℕ)) (nodes : List ℕ) → sets ≡ sets_of b → leaf ≡ leaf_of b x → nodes ≡ chain sets leaf → IsChain b x nodes
chain_is b x leaf sets nodes e f g = rw (g, e, f) (chain_in b x)
