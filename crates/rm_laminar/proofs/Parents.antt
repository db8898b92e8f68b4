-- The node just outside a node is the next in each chain.
use Rattle.std.proofs.Common.{◌≡◌, ◌∙◌, ℕ, zero, suc, ◌+◌, ◌<◌, List, [], ◌∷◌, Bool, true, ◌&&◌, ◌⊎◌, ltb, filter, get_or, length, drop, refl, sym, ap, subst, inl, inr, ⊎_elim, arith, ltb-true, add-one}
use Rattle.std.specs.List.{slice_get}
use Rattle.std.proofs.lemmas.Bool.{cases_eq, eq-eqb, ne_eqb, lt-ltb, and_parts, and_from}
use Rattle.rm_sets.specs.Sets.{has, IsIn}
use Rattle.rm_sets.proofs.Sets.{IsIn-later, IsIn-cases, same_tests, IsSet-filter, IsSet-all_below}
use Rattle.rm_sets.proofs.Members.{not_in_nil, IsIn-get_or}
use Rattle.rm_market.specs.Tree.{below, is_inside, in_order, parent}
use Rattle.rm_laminar.specs.Chains.{IsOrdered, IsLaminar, IsOrderedChain}
use Rattle.rm_laminar.specs.Walk.{around, nodes_from}
use Rattle.rm_laminar.proofs.Order.{same_ordered, has-in_order, in_order-ordered}
use Rattle.rm_laminar.proofs.Laminar.{Holds, inside-asymmetric, inside-order, inside-within, chain-holds, holds-chain, has-below}

-- each that follows stands after the one at place i, and each other one is it or stands before it
pub record Splits (first : ℕ → ℕ → Bool) (xs : List ℕ) (i : ℕ) : Type 0 where
  pub after : (y : ℕ) → IsIn y (drop (suc i) xs) → first (get_or xs i 0) y ≡ true
  pub member : (y : ℕ) → IsIn y (drop (suc i) xs) → IsIn y xs
  pub others : (y : ℕ) → IsIn y xs → IsIn y (drop (suc i) xs) ⊎ ((y ≡ get_or xs i 0) ⊎ (first y (get_or xs i 0) ≡ true))
  pub rest : IsOrdered first (drop (suc i) xs)

pub splits : (first : ℕ → ℕ → Bool) (xs : List ℕ) (i : ℕ) → IsOrdered first xs → i < length xs → Splits first xs i
unfolding IsOrdered
splits first [] i p lt = absurd (omega arith)
splits first (x ∷ xs) zero p lt = record {
  after = p.0;
  member = λ y j. IsIn-later y x xs j;
  others = λ y j. ⊎_elim (λ (same : y ≡ x). inr (inl same)) (λ later. inl later) (IsIn-cases y x xs j);
  rest = p.1;
}
splits first (x ∷ xs) (suc i) p lt =
    let s = splits first xs i p.1 (omega arith) in
    record {
      after = s.after;
      member = λ y j. IsIn-later y x xs (s.member y j);
      others = λ y j. ⊎_elim
          (λ (same : y ≡ x). inr (inr (subst (λ (z : ℕ). first z (get_or xs i 0) ≡ true) (sym same) (p.0 (get_or xs i 0) (IsIn-get_or xs i 0 (omega arith))))))
          (λ later. s.others y later) (IsIn-cases y x xs j);
      rest = s.rest;
    }

get-drop : (xs : List ℕ) (i : ℕ) → slice_get (drop i xs) 0 ≡ slice_get xs i
get-drop xs zero = refl
get-drop [] (suc i) = refl
get-drop (x ∷ xs) (suc i) = get-drop xs i

-- the nodes outside the one at place i are those that follow
pub outside-next : (sets : List (List ℕ)) → IsLaminar sets → (leaf i k : ℕ) (nodes : List ℕ) → IsOrderedChain sets leaf nodes → i < length nodes → get_or nodes i 0 ≡ k
    → in_order (is_inside sets) (filter (is_inside sets k) (below (length sets))) ≡ drop (suc i) nodes
outside-next sets l leaf i k nodes c lt at =
    let s = splits (is_inside sets) nodes i c.ordered lt in
    let holds : Holds sets leaf k = chain-holds sets leaf k nodes c (subst (λ (x : ℕ). IsIn x nodes) at (IsIn-get_or nodes i 0 lt)) in
    let outside : List ℕ = filter (is_inside sets k) (below (length sets)) in
    let there : (x : ℕ) → has x outside ≡ (ltb x (length sets) && is_inside sets k x) = λ x. has-below (length sets) x (is_inside sets k) in
    let grown : (x : ℕ) → IsIn x outside → Holds sets leaf x = λ x j.
    let both = and_parts (ltb x (length sets)) (is_inside sets k x) (sym (there x) ∙ j) in
    record { node = ltb-true x (length sets) both.0; has_leaf = inside-within sets k x both.1 leaf holds.has_leaf }
    in
    let ordered = in_order-ordered (Holds sets leaf) (is_inside sets) (inside-order sets l leaf) outside (IsSet-filter (is_inside sets k) (below (length sets)) (IsSet-all_below (length sets) (λ j. true))) grown in
    same_ordered (is_inside sets) (inside-asymmetric sets) (in_order (is_inside sets) outside) (drop (suc i) nodes) ordered s.rest
    (λ x. has-in_order (is_inside sets) outside x ∙ same_tests (has x outside) (has x (drop (suc i) nodes))
    (λ j.
    let inside : is_inside sets k x ≡ true = (and_parts (ltb x (length sets)) (is_inside sets k x) (sym (there x) ∙ j)).1 in
    ⊎_elim (λ yes. yes) (λ no. absurd (⊎_elim
    (λ (e : x ≡ get_or nodes i 0). let f = subst (λ (y : ℕ). is_inside sets k y ≡ true) (e ∙ at) inside in inside-asymmetric sets k k f f)
    (λ before. inside-asymmetric sets k x inside (subst (λ (y : ℕ). is_inside sets x y ≡ true) at before))
    no)) (s.others x (holds-chain sets leaf x nodes c (grown x j))))
    (λ j. there x ∙ and_from (ltb x (length sets)) (is_inside sets k x) (lt-ltb x (length sets) (chain-holds sets leaf x nodes c (s.member x j)).node) (subst (λ (y : ℕ). is_inside sets y x ≡ true) at (s.after x j))))

pub parent-next : (sets : List (List ℕ)) → IsLaminar sets → (leaf i k : ℕ) (nodes : List ℕ) → IsOrderedChain sets leaf nodes → i < length nodes → get_or nodes i 0 ≡ k → parent sets k ≡ slice_get nodes (i + 1)
unfolding parent
parent-next sets l leaf i k nodes c lt at = rw (outside-next sets l leaf i k nodes c lt at, add-one i) (get-drop nodes (suc i))

-- ---- the nodes of a chain from a node on

pub record Stands (nodes : List ℕ) (k : ℕ) : Type 0 where
  pub place : ℕ
  pub short : place < length nodes
  pub here : get_or nodes place 0 ≡ k
  pub from : nodes_from k nodes ≡ k ∷ drop (suc place) nodes

pub stands : (nodes : List ℕ) (k : ℕ) → IsIn k nodes → Stands nodes k
stands [] k i = absurd (not_in_nil k i)
stands (x ∷ xs) k i = ⊎_elim
    (λ (same : k ≡ x). record { place = 0; short = omega arith; here = sym same; from = rw (eq-eqb x k (sym same), sym same) refl })
    (λ apart. let s = stands xs k (⊎_elim (λ e. absurd (apart e)) (λ later. later) (IsIn-cases k x xs i)) in
    record { place = suc s.place; short = (let lt = s.short in omega arith); here = s.here; from = rw (ne_eqb x k (λ e. apart (sym e))) s.from })
    (cases_eq k x)

pub around-is : (sets : List (List ℕ)) → IsLaminar sets → (leaf k : ℕ) (nodes : List ℕ) → IsOrderedChain sets leaf nodes → IsIn k nodes → nodes_from k nodes ≡ around sets k
unfolding around
around-is sets l leaf k nodes c i =
    let s = stands nodes k i in
    s.from ∙ ap (λ (xs : List ℕ). k ∷ xs) (sym (outside-next sets l leaf s.place k nodes c s.short s.here))
