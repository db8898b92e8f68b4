-- Sets of which no two cross, and the nodes that contain a leaf.
use Rattle.std.proofs.Common.{◌≡◌, ◌∙◌, ℕ, ◌<◌, ◌≤◌, List, [], ◌∷◌, Bool, true, false, not, ◌&&◌, ◌||◌, ◌⊎◌, ltb, filter, length, refl, sym, ap, subst, inl, inr, ⊎_elim, arith, ltb-true}
use Rattle.std.proofs.lemmas.Bool.{cases_Bool, and_parts, and_from, or_left, or_right, not_from_false, lt-ltb, cases_lt}
use Rattle.rm_sets.specs.Sets.{has, IsIn, IsWithin, common, minus}
use Rattle.rm_sets.proofs.Sets.{IsIn-here, not_both, cases_has, has-filter, has-all_below, IsSet-filter, IsSet-all_below}
use Rattle.rm_sets.proofs.Members.{not_in_nil, IsIn-common, IsIn-from_minus, IsIn-minus, within_refl, within_trans}
use Rattle.rm_market.specs.Board.{is_empty, crosses}
use Rattle.rm_market.specs.Tree.{below, set_of, is_subset, is_inside, chain}
use Rattle.rm_laminar.specs.Chains.{IsLaminar, IsOrderedChain}
use Rattle.rm_laminar.proofs.Order.{Asymmetric, IsOrderOn, same_ordered, has-in_order, in_order-ordered}

-- ---- empty sets and subsets

pub empty-no : (S : List ℕ) (x : ℕ) → IsIn x S → is_empty S ≡ false
empty-no [] x i = absurd (not_in_nil x i)
empty-no (y ∷ S) x i = grind arith

pub empty-yes : (S : List ℕ) → is_empty S ≡ true → S ≡ []
empty-yes [] e = refl
empty-yes (y ∷ S) e = absurd (grind arith)

pub some-member : (S : List ℕ) → is_empty S ≡ false → (x : ℕ) × IsIn x S
some-member [] e = absurd (grind arith)
some-member (y ∷ S) e = (y, IsIn-here y S)

pub subset-within : (A B : List ℕ) → is_subset A B ≡ true → IsWithin A B
subset-within A B e x i = ⊎_elim (λ yes. yes)
    (λ none. absurd (not_in_nil x (subst (λ (S : List ℕ). IsIn x S) (empty-yes (minus A B) e) (IsIn-minus A B x i none))))
    (cases_has x B)

pub within-subset : (A B : List ℕ) → IsWithin A B → is_subset A B ≡ true
within-subset A B w = ⊎_elim (λ yes. yes)
    (λ none. let m = some-member (minus A B) none in let p = IsIn-from_minus A B m.0 m.1 in absurd (not_both (has m.0 B) (w m.0 p.0) p.1))
    (cases_Bool (is_empty (minus A B)))

either : (c a b : Bool) → c ≡ false → ((not c && not a) && not b) ≡ false → (a ≡ true) ⊎ (b ≡ true)
either true a b f e = cc
either false true b f e = inl refl
either false false true f e = inr refl
either false false false f e = cc

-- sets that share a member and don't cross
pub nested : (A B : List ℕ) (x : ℕ) → crosses A B ≡ false → IsIn x A → IsIn x B → IsWithin A B ⊎ IsWithin B A
nested A B x e i j =
    ⊎_elim (λ a. inl (subset-within A B a)) (λ b. inr (subset-within B A b))
    (either (is_empty (common A B)) (is_empty (minus A B)) (is_empty (minus B A)) (empty-no (common A B) x (IsIn-common A B x i j)) e)

-- ---- a node inside another

pub inside-within : (sets : List (List ℕ)) (k n : ℕ) → is_inside sets k n ≡ true → IsWithin (set_of sets k) (set_of sets n)
inside-within sets k n e =
    subset-within (set_of sets k) (set_of sets n) (and_parts (is_subset (set_of sets k) (set_of sets n)) (not (is_subset (set_of sets n) (set_of sets k)) || ltb k n) e).0

pub inside-before : (sets : List (List ℕ)) (k n : ℕ) → is_inside sets k n ≡ true → IsWithin (set_of sets n) (set_of sets k) → k < n
inside-before sets k n e w =
    let back = within-subset (set_of sets n) (set_of sets k) w in
    let rest = (and_parts (is_subset (set_of sets k) (set_of sets n)) (not (is_subset (set_of sets n) (set_of sets k)) || ltb k n) e).1 in
    ltb-true k n (rw back at rest)

pub inside-from : (sets : List (List ℕ)) (k n : ℕ) → IsWithin (set_of sets k) (set_of sets n) → (IsWithin (set_of sets n) (set_of sets k) → k < n) → is_inside sets k n ≡ true
inside-from sets k n w h =
    and_from (is_subset (set_of sets k) (set_of sets n)) (not (is_subset (set_of sets n) (set_of sets k)) || ltb k n) (within-subset (set_of sets k) (set_of sets n) w)
    (⊎_elim
    (λ back. or_right (not (is_subset (set_of sets n) (set_of sets k))) (ltb k n) (lt-ltb k n (h (subset-within (set_of sets n) (set_of sets k) back))))
    (λ none. or_left (not (is_subset (set_of sets n) (set_of sets k))) (ltb k n) (not_from_false (is_subset (set_of sets n) (set_of sets k)) none))
    (cases_Bool (is_subset (set_of sets n) (set_of sets k))))

pub inside-asymmetric : (sets : List (List ℕ)) → Asymmetric (is_inside sets)
inside-asymmetric sets k n p q =
    let less = inside-before sets k n p (inside-within sets n k q) in
    let more = inside-before sets n k q (inside-within sets k n p) in
    omega arith

-- ---- laminar families

-- k is a node that has the leaf
pub record Holds (sets : List (List ℕ)) (leaf k : ℕ) : Type 0 where
  pub node : k < length sets
  pub has_leaf : IsIn leaf (set_of sets k)

pub nested-nodes : (sets : List (List ℕ)) → IsLaminar sets → (leaf i j : ℕ) → Holds sets leaf i → Holds sets leaf j → IsWithin (set_of sets i) (set_of sets j) ⊎ IsWithin (set_of sets j) (set_of sets i)
nested-nodes sets l leaf i j p q =
    ⊎_elim
    (λ less. nested (set_of sets i) (set_of sets j) leaf (l.apart i j less q.node) p.has_leaf q.has_leaf)
    (λ le. ⊎_elim
    (λ more. ⊎_elim (λ w. inr w) (λ w. inl w) (nested (set_of sets j) (set_of sets i) leaf (l.apart j i more p.node) q.has_leaf p.has_leaf))
    (λ same. let e : i ≡ j = omega arith in inl (subst (λ (k : ℕ). IsWithin (set_of sets i) (set_of sets k)) e (within_refl (set_of sets i))))
    (cases_lt j i))
    (cases_lt i j)

strictly : (i j : ℕ) → j ≤ i → (i ≡ j → ⊥) → j < i
strictly i j le apart = omega arith

pub inside-order : (sets : List (List ℕ)) → IsLaminar sets → (leaf : ℕ) → IsOrderOn (Holds sets leaf) (is_inside sets)
inside-order sets l leaf = record {
  total = λ i j p q apart. ⊎_elim (λ w. one_way i j w apart) (λ w. ⊎_elim (λ e. inr e) (λ e. inl e) (one_way j i w (λ e. apart (sym e)))) (nested-nodes sets l leaf i j p q);
  trans = λ i j k p q r a b. inside-from sets i k (within_trans (set_of sets i) (set_of sets j) (set_of sets k) (inside-within sets i j a) (inside-within sets j k b))
      (λ back. let u = inside-before sets i j a (within_trans (set_of sets j) (set_of sets k) (set_of sets i) (inside-within sets j k b) back) in
      let v = inside-before sets j k b (within_trans (set_of sets k) (set_of sets i) (set_of sets j) back (inside-within sets i j a)) in
      omega arith);
}
  where
    one_way : (i j : ℕ) → IsWithin (set_of sets i) (set_of sets j) → (i ≡ j → ⊥) → (is_inside sets i j ≡ true) ⊎ (is_inside sets j i ≡ true)
    one_way i j w apart = ⊎_elim
        (λ back. ⊎_elim
        (λ less. inl (inside-from sets i j w (λ _. less)))
        (λ le. inr (inside-from sets j i (subset-within (set_of sets j) (set_of sets i) back) (λ _. strictly i j le apart)))
        (cases_lt i j))
        (λ none. inl (inside-from sets i j w (λ back. absurd (not_both (is_subset (set_of sets j) (set_of sets i)) (within-subset (set_of sets j) (set_of sets i) back) none))))
        (cases_Bool (is_subset (set_of sets j) (set_of sets i)))

-- ---- chains

pub chain-holds : (sets : List (List ℕ)) (leaf k : ℕ) (nodes : List ℕ) → IsOrderedChain sets leaf nodes → IsIn k nodes → Holds sets leaf k
chain-holds sets leaf k nodes c i =
    let both = and_parts (ltb k (length sets)) (has leaf (set_of sets k)) (sym (c.each k) ∙ i) in
    record { node = ltb-true k (length sets) both.0; has_leaf = both.1 }

pub holds-chain : (sets : List (List ℕ)) (leaf k : ℕ) (nodes : List ℕ) → IsOrderedChain sets leaf nodes → Holds sets leaf k → IsIn k nodes
holds-chain sets leaf k nodes c h = c.each k ∙ and_from (ltb k (length sets)) (has leaf (set_of sets k)) (lt-ltb k (length sets) h.node) h.has_leaf

pub has-below : (n k : ℕ) (p : ℕ → Bool) → has k (filter p (below n)) ≡ (ltb k n && p k)
has-below n k p = has-filter p (below n) k ∙ ap (λ (b : Bool). b && p k) (has-all_below n (λ j. true) k ∙ and_true (ltb k n))
  where
    and_true : (b : Bool) → (b && true) ≡ b
    and_true true = refl
    and_true false = refl

pub chain-is : (sets : List (List ℕ)) → IsLaminar sets → (leaf : ℕ) → IsOrderedChain sets leaf (chain sets leaf)
unfolding chain
chain-is sets l leaf =
    let there : (k : ℕ) → has k (filter (λ k. has leaf (set_of sets k)) (below (length sets))) ≡ (ltb k (length sets) && has leaf (set_of sets k)) = λ k. has-below (length sets) k (λ k. has leaf (set_of sets k)) in
    record {
      ordered = in_order-ordered (Holds sets leaf) (is_inside sets) (inside-order sets l leaf) (filter (λ k. has leaf (set_of sets k)) (below (length sets)))
          (IsSet-filter (λ k. has leaf (set_of sets k)) (below (length sets)) (IsSet-all_below (length sets) (λ j. true)))
          (λ k i. let both = and_parts (ltb k (length sets)) (has leaf (set_of sets k)) (sym (there k) ∙ i) in record { node = ltb-true k (length sets) both.0; has_leaf = both.1 });
      each = λ k. has-in_order (is_inside sets) (filter (λ k. has leaf (set_of sets k)) (below (length sets))) k ∙ there k;
    }

pub chain-same : (sets : List (List ℕ)) → IsLaminar sets → (leaf : ℕ) (nodes : List ℕ) → IsOrderedChain sets leaf nodes → nodes ≡ chain sets leaf
chain-same sets l leaf nodes c =
    let d = chain-is sets l leaf in
    same_ordered (is_inside sets) (inside-asymmetric sets) nodes (chain sets leaf) c.ordered d.ordered (λ k. c.each k ∙ sym (d.each k))
