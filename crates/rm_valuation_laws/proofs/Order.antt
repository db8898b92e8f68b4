-- The order of a board's nodes, and what it gives to the walk of an offer and to the kept removals.
use Rattle.std.proofs.Common.{◌≡◌, ◌⊎◌, ℕ, zero, suc, ◌<◌, ◌≤◌, Bool, true, false, not, ◌&&◌, ◌||◌, List, length, eqb, nat_lt, refl, sym, ap, ap₂, ◌∙◌, subst, inl, inr, ⊎_elim, arith, eq-eqb, eqb-true, IsFalse}
use Rattle.std.proofs.lemmas.Bool.{cases_eq, cases_Bool, cases_order, and_parts, and_from, and_cases, or_cases, or_left, or_right, not-true, not-false, not_from_true, not_from_false, lt-ltb, ltb-true, false_from_ne_true}
use Rattle.std.proofs.Math.ListN.{get_or-map}
use Rattle.rm_sets.specs.Sets.{has, IsIn, common, minus}
use Rattle.rm_sets.proofs.Sets.{not_both, cases_has, same_tests}
use Rattle.rm_sets.proofs.Members.{IsIn-common, IsIn-minus, IsIn-from_minus, IsIn-get_or}
use Rattle.rm_market.specs.Board.{Board, leaf_of, is_empty, crosses, node_at, no_node, sets_of}
use Rattle.rm_valuation_laws.specs.Changes.{IsConcaveBoard, test_at, swap_loss, loss_upto, IsJustAbove}
use Rattle.rm_valuation_laws.specs.Offers.{IsInside}
use Rattle.rm_valuation_laws.specs.Order.{is_under, IsParent, IsLeafNode, IsRoot}
use Rattle.rm_market.specs.Tree.{set_of, is_subset, is_inside}
use Rattle.rm_valuation_laws.proofs.LaminarExchange.{no_member}
use Rattle.rm_valuation_laws.proofs.Cheapest.{loss_of_swap}

-- ---- subsets by test

empty_from : (S : List ℕ) → ((x : ℕ) → IsIn x S → ⊥) → is_empty S ≡ true
empty_from S none =
    ⊎_elim
    (λ e. eq-eqb (length S) 0 e)
    (λ ne. absurd (none _ (IsIn-get_or S 0 0 (omega arith))))
    (cases_eq (length S) 0)

subset_members : (A B : List ℕ) → is_subset A B ≡ true → (x : ℕ) → IsIn x A → IsIn x B
subset_members A B e x h = ⊎_elim (λ inB. inB) (λ out. absurd (no_member (minus A B) e x (IsIn-minus A B x h out))) (cases_has x B)

subset_from : (A B : List ℕ) → ((x : ℕ) → IsIn x A → IsIn x B) → is_subset A B ≡ true
subset_from A B f = empty_from (minus A B) (λ x h. let parts = IsIn-from_minus A B x h in not_both (has x B) (f x parts.0) parts.1)

-- ---- the order

pub set_is : (b : Board) (a : ℕ) → set_of (sets_of b) a ≡ (node_at b a).leaves
set_is b a = get_or-map (λ n. n.leaves) b.nodes a no_node

inside_is : (b : Board) (k a : ℕ) → is_inside (sets_of b) k a ≡ (is_subset (node_at b k).leaves (node_at b a).leaves && (not (is_subset (node_at b a).leaves (node_at b k).leaves) || nat_lt k a))
inside_is b k a = ap₂ (λ A B. is_subset A B && (not (is_subset B A) || nat_lt k a)) (set_is b k) (set_is b a)

inside_parts : (b : Board) (k a : ℕ) → is_inside (sets_of b) k a ≡ true → (is_subset (node_at b k).leaves (node_at b a).leaves ≡ true) × ((is_subset (node_at b a).leaves (node_at b k).leaves ≡ false) ⊎ (k < a))
inside_parts b k a h =
    let p = and_parts (is_subset (node_at b k).leaves (node_at b a).leaves) (not (is_subset (node_at b a).leaves (node_at b k).leaves) || nat_lt k a) (sym (inside_is b k a) ∙ h) in
    (p.0, ⊎_elim (λ t. inl (not-true (is_subset (node_at b a).leaves (node_at b k).leaves) t)) (λ t. inr (ltb-true k a t)) (or_cases (not (is_subset (node_at b a).leaves (node_at b k).leaves)) (nat_lt k a) p.1))

inside_from : (b : Board) (k a : ℕ) → is_subset (node_at b k).leaves (node_at b a).leaves ≡ true → (is_subset (node_at b a).leaves (node_at b k).leaves ≡ false) ⊎ (k < a) → is_inside (sets_of b) k a ≡ true
inside_from b k a s h =
    inside_is b k a
    ∙ and_from (is_subset (node_at b k).leaves (node_at b a).leaves) (not (is_subset (node_at b a).leaves (node_at b k).leaves) || nat_lt k a) s
    (⊎_elim
    (λ f. or_left (not (is_subset (node_at b a).leaves (node_at b k).leaves)) (nat_lt k a) (not_from_false (is_subset (node_at b a).leaves (node_at b k).leaves) f))
    (λ lt. or_right (not (is_subset (node_at b a).leaves (node_at b k).leaves)) (nat_lt k a) (lt-ltb k a lt))
    h)

pub inside_trans : (b : Board) (k l a : ℕ) → is_inside (sets_of b) k l ≡ true → is_inside (sets_of b) l a ≡ true → is_inside (sets_of b) k a ≡ true
inside_trans b k l a h g =
    let K = (node_at b k).leaves in
    let L = (node_at b l).leaves in
    let A = (node_at b a).leaves in
    let p = inside_parts b k l h in
    let q = inside_parts b l a g in
    inside_from b k a (subset_from K A (λ x i. subset_members L A q.0 x (subset_members K L p.0 x i)))
    (⊎_elim
    (λ back.
    let l_in_k : is_subset L K ≡ true = subset_from L K (λ x i. subset_members A K back x (subset_members L A q.0 x i)) in
    let a_in_l : is_subset A L ≡ true = subset_from A L (λ x i. subset_members K L p.0 x (subset_members A K back x i)) in
    let lt1 : k < l = ⊎_elim (λ f. absurd (not_both (is_subset L K) l_in_k f)) (λ lt. lt) p.1 in
    let lt2 : l < a = ⊎_elim (λ f. absurd (not_both (is_subset A L) a_in_l f)) (λ lt. lt) q.1 in
    inr (omega arith))
    (λ f. inl f)
    (cases_Bool (is_subset A K)))

-- no two nodes lie inside each other
pub inside_once : (b : Board) (k a : ℕ) → is_inside (sets_of b) k a ≡ true → is_inside (sets_of b) a k ≡ true → ⊥
inside_once b k a h g =
    let p = inside_parts b k a h in
    let q = inside_parts b a k g in
    ⊎_elim
    (λ f. not_both (is_subset (node_at b a).leaves (node_at b k).leaves) q.0 f)
    (λ lt. ⊎_elim (λ f. not_both (is_subset (node_at b k).leaves (node_at b a).leaves) p.0 f) (λ gt. omega arith) q.1)
    p.1

pub inside_tests : (b : Board) (k a : ℕ) → is_inside (sets_of b) k a ≡ true → IsInside (test_at b k) (test_at b a)
inside_tests b k a h x t = subset_members (node_at b k).leaves (node_at b a).leaves (inside_parts b k a h).0 (leaf_of b x) t

under_cases : (b : Board) (k a : ℕ) → is_under b k a ≡ true → (k ≡ a) ⊎ (is_inside (sets_of b) k a ≡ true)
under_cases b k a h = ⊎_elim (λ e. inl (eqb-true k a e)) (λ i. inr i) (or_cases (eqb k a) (is_inside (sets_of b) k a) h)

under_from : (b : Board) (k a : ℕ) → is_inside (sets_of b) k a ≡ true → is_under b k a ≡ true
under_from b k a h = or_right (eqb k a) (is_inside (sets_of b) k a) h

under_self : (b : Board) (k a : ℕ) → k ≡ a → is_under b k a ≡ true
under_self b k a e = or_left (eqb k a) (is_inside (sets_of b) k a) (eq-eqb k a e)

pub under_tests : (b : Board) (k a : ℕ) → is_under b k a ≡ true → IsInside (test_at b k) (test_at b a)
under_tests b k a h =
    ⊎_elim
    (λ e. subst (λ z. IsInside (test_at b k) (test_at b z)) e (λ x t. t))
    (λ i. inside_tests b k a i)
    (under_cases b k a h)

-- two nodes that share a contract
pub comparable : (b : Board) → IsConcaveBoard b → (k l x : ℕ) → k < length b.nodes → l < length b.nodes → test_at b k x ≡ true → test_at b l x ≡ true → (k ≡ l) ⊎ ((is_inside (sets_of b) k l ≡ true) ⊎ (is_inside (sets_of b) l k ≡ true))
comparable b ok k l x lk ll tk tl =
    ⊎_elim
    (λ e. inl e)
    (λ rest. inr (⊎_elim
    (λ lt. by_order k l lt tk tl (ok.laminar k l no_node lt ll))
    (λ gt. ⊎_elim (λ i. inr i) (λ i. inl i) (by_order l k gt tl tk (ok.laminar l k no_node gt lk)))
    rest))
    (cases_order k l)
  where
    by_order : (p q : ℕ) → p < q → test_at b p x ≡ true → test_at b q x ≡ true → IsFalse (crosses (node_at b p).leaves (node_at b q).leaves) → (is_inside (sets_of b) p q ≡ true) ⊎ (is_inside (sets_of b) q p ≡ true)
    by_order p q lt tp tq h =
        let P = (node_at b p).leaves in
        let Q = (node_at b q).leaves in
        ⊎_elim
        (λ two. ⊎_elim
        (λ none. absurd (no_member (common P Q) (not-false (is_empty (common P Q)) none) (leaf_of b x) (IsIn-common P Q (leaf_of b x) tp tq)))
        (λ none. inl (inside_from b p q (not-false (is_subset P Q) none) (inr lt)))
        (and_cases (not (is_empty (common P Q))) (not (is_empty (minus P Q))) two))
        (λ none.
        let q_in_p : is_subset Q P ≡ true = not-false (is_subset Q P) none in
        ⊎_elim
        (λ both. inl (inside_from b p q both (inr lt)))
        (λ f. inr (inside_from b q p q_in_p (inl f)))
        (cases_Bool (is_subset P Q)))
        (and_cases (not (is_empty (common P Q)) && not (is_empty (minus P Q))) (not (is_empty (minus Q P))) h)

-- a node of z is under d, or lies at or outside the node just outside d
under_or_above : (b : Board) → IsConcaveBoard b → (d a z k : ℕ) → d < length b.nodes → k < length b.nodes → IsParent b d a → test_at b d z ≡ true → test_at b k z ≡ true → (is_under b k d ≡ true) ⊎ (is_under b a k ≡ true)
under_or_above b ok d a z k ld lk parent td tk =
    ⊎_elim
    (λ e. inl (under_self b k d e))
    (λ rest. ⊎_elim
    (λ i. inl (under_from b k d i))
    (λ o. inr (parent.next k lk o))
    rest)
    (comparable b ok k d z lk ld tk td)

-- nothing is inside itself
inside_self : (b : Board) (k : ℕ) → is_inside (sets_of b) k k ≡ true → ⊥
inside_self b k h = inside_once b k k h h

under_inside : (b : Board) (k l a : ℕ) → is_under b k l ≡ true → is_inside (sets_of b) l a ≡ true → is_inside (sets_of b) k a ≡ true
under_inside b k l a u i = ⊎_elim (λ e. subst (λ w. is_inside (sets_of b) w a ≡ true) (sym e) i) (λ j. inside_trans b k l a j i) (under_cases b k l u)

under_trans : (b : Board) (k l a : ℕ) → is_under b k l ≡ true → is_under b l a ≡ true → is_under b k a ≡ true
under_trans b k l a u w = ⊎_elim (λ e. subst (λ y. is_under b k y ≡ true) e u) (λ i. under_from b k a (under_inside b k l a u i)) (under_cases b l a w)

not_under_above : (b : Board) (a d k : ℕ) → is_inside (sets_of b) d a ≡ true → is_under b a k ≡ true → is_under b k d ≡ true → ⊥
not_under_above b a d k i up down = inside_self b a (under_inside b a d a (under_trans b a k d up down) i)

-- ---- what the order gives

pub just_above : (b : Board) → IsConcaveBoard b → (a d z : ℕ) → d < length b.nodes → IsParent b d a → test_at b d z ≡ true → IsJustAbove b (is_under b) a d z
just_above b ok a d z ld parent td = record {
  inside = td;
  above = inside_tests b d a parent.inside z td;
  not_under = false_from_ne_true (is_under b a d) (λ u. not_under_above b a d d parent.inside u (under_self b d d refl));
  just = λ k lk tk. same_tests (is_under b k a) (is_under b k d || eqb k a)
      (λ u. ⊎_elim
      (λ down. or_left (is_under b k d) (eqb k a) down)
      (λ up. or_right (is_under b k d) (eqb k a) (⊎_elim
      (λ e. eq-eqb k a e)
      (λ i. absurd (inside_self b a (under_inside b a k a up i)))
      (under_cases b k a u)))
      (under_or_above b ok d a z k ld lk parent td tk))
      (λ h. ⊎_elim (λ down. under_from b k a (under_inside b k d a down parent.inside)) (λ e. under_self b k a (eqb-true k a e)) (or_cases (is_under b k d) (eqb k a) h));
}

-- at a node with none inside, `under` is equality
pub leaf_under : (b : Board) (a k : ℕ) → IsLeafNode b a → k < length b.nodes → is_under b k a ≡ eqb k a
leaf_under b a k leaf lk = ap (λ c. eqb k a || c) (leaf k lk) ∙ or_no (eqb k a)
  where
    or_no : (c : Bool) → (c || false) ≡ c
    or_no true = refl
    or_no false = refl

-- z in a child d of a node of x, and x not in d: what the swap loses is the loss at d
pub swap_loss_at : (b : Board) (H : List ℕ) → IsConcaveBoard b → (a d x z : ℕ) → d < length b.nodes → IsParent b d a → test_at b a x ≡ true → test_at b d x ≡ false → test_at b d z ≡ true →
    swap_loss b H x z ≡ loss_upto b (is_under b) H d z
swap_loss_at b H ok a d x z ld parent ax dx dz =
    loss_of_swap b (is_under b) H d x z (λ k lk tk.
    ⊎_elim
    (λ down.
    let out : test_at b k x ≡ false = false_from_ne_true (test_at b k x) (λ t. not_both (test_at b d x) (under_tests b k d down x t) dx) in
    not_from_false (test_at b k x) out ∙ sym down)
    (λ up.
    let here : test_at b k x ≡ true = under_tests b a k up x ax in
    let no_down : is_under b k d ≡ false = false_from_ne_true (is_under b k d) (λ down. not_under_above b a d k parent.inside up down) in
    not_from_true (test_at b k x) here ∙ sym no_down)
    (under_or_above b ok d a z k ld lk parent dz tk))

-- each node of x holds a, or is inside the child of a that has x
pub step_of_walk : (b : Board) → IsConcaveBoard b → (a c x k : ℕ) → c < length b.nodes → k < length b.nodes → IsParent b c a → test_at b c x ≡ true → test_at b k x ≡ true →
    IsInside (test_at b a) (test_at b k) ⊎ IsInside (test_at b k) (test_at b c)
step_of_walk b ok a c x k lc lk parent cx kx = ⊎_elim (λ down. inr (under_tests b k c down)) (λ up. inl (under_tests b a k up)) (under_or_above b ok c a x k lc lk parent cx kx)

-- each node of x holds the leaf node a of x
pub leaf_of_walk : (b : Board) → IsConcaveBoard b → (a x k : ℕ) → a < length b.nodes → k < length b.nodes → IsLeafNode b a → test_at b a x ≡ true → test_at b k x ≡ true → IsInside (test_at b a) (test_at b k)
leaf_of_walk b ok a x k la lk leaf ax kx =
    ⊎_elim
    (λ e. subst (λ w. IsInside (test_at b a) (test_at b w)) e (λ y t. t))
    (λ rest. ⊎_elim
    (λ o. inside_tests b a k o)
    (λ i. absurd (not_both (is_inside (sets_of b) k a) i (leaf k lk)))
    rest)
    (comparable b ok a k x la lk ax kx)

-- each node of x lies in its root
pub root_of_walk : (b : Board) → IsConcaveBoard b → (a x k : ℕ) → a < length b.nodes → k < length b.nodes → IsRoot b a → test_at b a x ≡ true → test_at b k x ≡ true → IsInside (test_at b k) (test_at b a)
root_of_walk b ok a x k la lk root ax kx =
    ⊎_elim
    (λ e. subst (λ w. IsInside (test_at b w) (test_at b a)) e (λ y t. t))
    (λ rest. ⊎_elim
    (λ o. absurd (not_both (is_inside (sets_of b) a k) o (root k lk)))
    (λ i. inside_tests b k a i)
    rest)
    (comparable b ok a k x la lk ax kx)

-- ---- children

-- a node of y inside a that none of the first k such nodes lies outside of
abbrev IsOutermost : Board → ℕ → ℕ → ℕ → ℕ → Type 0
IsOutermost b a y k e = (e < length b.nodes) × (test_at b e y ≡ true) × (is_inside (sets_of b) e a ≡ true) × ((l : ℕ) → l < k → test_at b l y ≡ true → is_inside (sets_of b) l a ≡ true → is_under b l e ≡ true)

-- whether node k has y and lies inside a
abbrev is_part : Board → ℕ → ℕ → ℕ → Bool
is_part b a y k = test_at b k y && is_inside (sets_of b) k a

outermost : (b : Board) → IsConcaveBoard b → (a y : ℕ) (k : ℕ) → k ≤ length b.nodes →
    ((l : ℕ) → l < k → is_part b a y l ≡ false) ⊎ ((e : ℕ) × IsOutermost b a y k e)
outermost b ok a y zero le = inl (λ l lt. absurd (omega arith))
outermost b ok a y (suc k) le =
    ⊎_elim
    (λ here.
    let parts = and_parts (test_at b k y) (is_inside (sets_of b) k a) here in
    ⊎_elim
    (λ none. inr (
      k,
      (
        omega arith,
        parts.0,
        parts.1,
        λ l lt t i.
            ⊎_elim (λ e. under_self b l k e) (λ ne. absurd (not_both (is_part b a y l) (and_from (test_at b l y) (is_inside (sets_of b) l a) t i) (none l (omega arith)))) (cases_eq l k),
      ),
    ))
    (λ some.
    let e = some.0 in
    let o = some.1 in
    ⊎_elim
    (λ same. inr (e, (o.0, o.1, o.2, λ l lt t i. ⊎_elim (λ f. under_self b l e (f ∙ sym same)) (λ ne. o.3 l (omega arith) t i) (cases_eq l k))))
    (λ rest. ⊎_elim
    (λ inside_k. inr (k, (omega arith, parts.0, parts.1, λ l lt t i. ⊎_elim (λ f. under_self b l k f) (λ ne. under_from b l k (under_inside b l e k (o.3 l (omega arith) t i) inside_k)) (cases_eq l k))))
    (λ inside_e. inr (e, (o.0, o.1, o.2, λ l lt t i. ⊎_elim (λ f. under_from b l e (subst (λ w. is_inside (sets_of b) w e ≡ true) (sym f) inside_e)) (λ ne. o.3 l (omega arith) t i) (cases_eq l k))))
    rest)
    (comparable b ok e k y o.0 (omega arith) o.1 parts.0))
    (outermost b ok a y k (omega arith)))
    (λ other. ⊎_elim
    (λ none. inl (λ l lt. ⊎_elim (λ e. subst (λ w. is_part b a y w ≡ false) (sym e) other) (λ ne. none l (omega arith)) (cases_eq l k)))
    (λ some. inr (
      some.0,
      (
        some.1.0,
        some.1.1,
        some.1.2,
        λ l lt t i.
            ⊎_elim (λ e. absurd (not_both (is_part b a y l) (and_from (test_at b l y) (is_inside (sets_of b) l a) t i) (subst (λ w. is_part b a y w ≡ false) (sym e) other))) (λ ne. some.1.3 l (omega arith) t i) (cases_eq l k),
      ),
    ))
    (outermost b ok a y k (omega arith)))
    (cases_Bool (is_part b a y k))

-- a contract of a that some node inside a has lies in a child of a
pub child_of : (b : Board) → IsConcaveBoard b → (a l y : ℕ) → a < length b.nodes → l < length b.nodes → test_at b l y ≡ true → is_inside (sets_of b) l a ≡ true → (e : ℕ) × (e < length b.nodes) × IsParent b e a × (test_at b e y ≡ true)
child_of b ok a l y la ll tl il =
    ⊎_elim
    (λ none. absurd (not_both (is_part b a y l) (and_from (test_at b l y) (is_inside (sets_of b) l a) tl il) (none l ll)))
    (λ some.
    let e = some.0 in
    let o = some.1 in (
      e,
      o.0,
      record {
        inside = o.2;
        next = λ k lk i.
            let ky = inside_tests b e k i y o.1 in
            ⊎_elim
            (λ same. under_self b a k (sym same))
            (λ rest. ⊎_elim
            (λ in_a. absurd (inside_self b e (⊎_elim (λ f. subst (λ w. is_inside (sets_of b) e w ≡ true) f i) (λ j. inside_trans b e k e i j) (under_cases b k e (o.3 k lk ky in_a)))))
            (λ out. under_from b a k out)
            rest)
            (comparable b ok k a y lk la ky (inside_tests b l a il y tl));
      },
      o.1,
    ))
    (outermost b ok a y (length b.nodes) (omega arith))
