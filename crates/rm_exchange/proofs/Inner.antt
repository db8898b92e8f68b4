-- Sums over the nodes of a contract that lie inside a node.
use Rattle.std.proofs.Common.{◌≡◌, ◌∙◌, ℕ, ◌<◌, List, Bool, true, false, ◌&&◌, ◌||◌, length, eqb, ℤ, pos, ◌+ℤ◌, refl, sym, ap, subst, ⊎_elim, arith, eqb-true, eq-eqb}
use Rattle.std.proofs.lemmas.Int.{ints}
use Rattle.std.proofs.lemmas.Bool.{or_cases, or_left, or_right, false_from_ne_true}
use Rattle.rm_sets.proofs.Sets.{same_tests}
use Rattle.rm_market.specs.Board.{Board, node_at, sets_of}
use Rattle.rm_market.specs.Tree.{is_inside}
use Rattle.rm_valuation_laws.specs.Changes.{on, sum_upto, last_step, test_at, loss_upto, IsConcaveBoard}
use Rattle.rm_valuation_laws.specs.Order.{is_under, IsParent}
use Rattle.rm_valuation_laws.proofs.Sums.{sum_upto_same, sum_upto_zero, sum_upto_add, sum_upto_one}
use Rattle.rm_valuation_laws.proofs.Order.{inside_trans, inside_once, comparable}

-- the sum, over the nodes of z inside node a, of their numbers
abbrev pub inner : Board → (ℕ → ℤ) → ℕ → ℕ → ℤ
inner b g a z = sum_upto (length b.nodes) (λ k. on (test_at b k z && is_inside (sets_of b) k a) (g k))

-- a node of z is inside the parent of c exactly where it is under c
pub inside_parent : (b : Board) → IsConcaveBoard b → (c a z k : ℕ) → c < length b.nodes → k < length b.nodes → IsParent b c a → test_at b c z ≡ true → test_at b k z ≡ true → is_inside (sets_of b) k a ≡ is_under b k c
inside_parent b ok c a z k lc lk parent tc tk =
    same_tests (is_inside (sets_of b) k a) (is_under b k c)
    (λ inside. ⊎_elim
    (λ e. or_left (eqb k c) (is_inside (sets_of b) k c) (eq-eqb k c e))
    (λ rest. ⊎_elim
    (λ i. or_right (eqb k c) (is_inside (sets_of b) k c) i)
    (λ o. absurd (⊎_elim
    (λ e. let f : a ≡ k = eqb-true a k e in inside_once b k a inside (subst (λ w. is_inside (sets_of b) a w ≡ true) f (subst (λ w. is_inside (sets_of b) w a ≡ true) (sym f) inside)))
    (λ i. inside_once b k a inside i)
    (or_cases (eqb a k) (is_inside (sets_of b) a k) (parent.next k lk o))))
    rest)
    (comparable b ok k c z lk lc tk tc))
    (λ under. ⊎_elim
    (λ e. subst (λ w. is_inside (sets_of b) w a ≡ true) (sym (eqb-true k c e)) parent.inside)
    (λ i. inside_trans b k c a i parent.inside)
    (or_cases (eqb k c) (is_inside (sets_of b) k c) under))

on_next : (t i j e : Bool) (s : ℤ) → (t ≡ true → i ≡ (e || j)) → (e ≡ true → t ≡ true) → (e ≡ true → j ≡ false) → on (t && i) s ≡ on (t && j) s +ℤ on e s
on_next true true true true s f g h = absurd (let q = h refl in cc)
on_next true true true false s f g h = omega (arith, ints)
on_next true true false true s f g h = omega (arith, ints)
on_next true true false false s f g h = absurd (let q = f refl in cc)
on_next true false j true s f g h = absurd (let q = f refl in cc)
on_next true false true false s f g h = absurd (let q = f refl in cc)
on_next true false false false s f g h = omega (arith, ints)
on_next false i j true s f g h = absurd (let q = g refl in cc)
on_next false i j false s f g h = omega (arith, ints)

-- one node further out
pub inner_next : (b : Board) (g : ℕ → ℤ) → IsConcaveBoard b → (c a z : ℕ) → c < length b.nodes → IsParent b c a → test_at b c z ≡ true → inner b g a z ≡ inner b g c z +ℤ g c
inner_next b g ok c a z lc parent tc =
    let m = length b.nodes in
    sum_upto_same m (λ k. on (test_at b k z && is_inside (sets_of b) k a) (g k)) (λ k. on (test_at b k z && is_inside (sets_of b) k c) (g k) +ℤ on (eqb k c) (g k))
    (λ k lk. on_next (test_at b k z) (is_inside (sets_of b) k a) (is_inside (sets_of b) k c) (eqb k c) (g k)
    (λ tk. inside_parent b ok c a z k lc lk parent tc tk)
    (λ e. subst (λ w. test_at b w z ≡ true) (sym (eqb-true k c e)) tc)
    (λ e. false_from_ne_true (is_inside (sets_of b) k c) (λ i. let f = subst (λ w. is_inside (sets_of b) w c ≡ true) (eqb-true k c e) i in inside_once b c c f f)))
    ∙ (sum_upto_add m (λ k. on (test_at b k z && is_inside (sets_of b) k c) (g k)) (λ k. on (eqb k c) (g k))
    ∙ ap (λ w. inner b g c z +ℤ w) (sum_upto_one m c g lc))

-- nothing inside
pub inner_none : (b : Board) (g : ℕ → ℤ) (a z : ℕ) → ((k : ℕ) → k < length b.nodes → test_at b k z ≡ true → is_inside (sets_of b) k a ≡ false) → inner b g a z ≡ pos 0
inner_none b g a z none =
    sum_upto_same (length b.nodes) (λ k. on (test_at b k z && is_inside (sets_of b) k a) (g k)) (λ k. pos 0) (λ k lk. off (test_at b k z) (is_inside (sets_of b) k a) (g k) (none k lk)) ∙ sum_upto_zero (length b.nodes)
  where
    off : (t i : Bool) (s : ℤ) → (t ≡ true → i ≡ false) → on (t && i) s ≡ pos 0
    off true true s f = absurd (let q = f refl in cc)
    off true false s f = refl
    off false i s f = refl

-- what is lost up to c is what is lost inside its parent
pub upto_is_inner : (b : Board) (H : List ℕ) → IsConcaveBoard b → (c a z : ℕ) → c < length b.nodes → IsParent b c a → test_at b c z ≡ true → loss_upto b (is_inside (sets_of b)) H a z ≡ loss_upto b (is_under b) H c z
upto_is_inner b H ok c a z lc parent tc =
    sum_upto_same (length b.nodes) (λ k. on (test_at b k z && is_inside (sets_of b) k a) (step k)) (λ k. on (test_at b k z && is_under b k c) (step k))
    (λ k lk. on_same (test_at b k z) (is_inside (sets_of b) k a) (is_under b k c) (step k) (λ tk. inside_parent b ok c a z k lc lk parent tc tk))
  where
    step : ℕ → ℤ
    step k = last_step b H (node_at b k)

    on_same : (p q r : Bool) (s : ℤ) → (p ≡ true → q ≡ r) → on (p && q) s ≡ on (p && r) s
    on_same true q r s f = ap (λ w. on w s) (f refl)
    on_same false q r s f = refl

-- what is lost up to c is what is lost inside it, and its own last step
pub upto_own : (b : Board) (H : List ℕ) (c z : ℕ) → c < length b.nodes → test_at b c z ≡ true → loss_upto b (is_under b) H c z ≡ loss_upto b (is_inside (sets_of b)) H c z +ℤ last_step b H (node_at b c)
upto_own b H c z lc tc =
    let m = length b.nodes in
    sum_upto_same m (λ k. on (test_at b k z && is_under b k c) (step k)) (λ k. on (test_at b k z && is_inside (sets_of b) k c) (step k) +ℤ on (eqb k c) (step k))
    (λ k lk. on_next (test_at b k z) (is_under b k c) (is_inside (sets_of b) k c) (eqb k c) (step k)
    (λ tk. refl)
    (λ e. subst (λ w. test_at b w z ≡ true) (sym (eqb-true k c e)) tc)
    (λ e. false_from_ne_true (is_inside (sets_of b) k c) (λ i. let f = subst (λ w. is_inside (sets_of b) w c ≡ true) (eqb-true k c e) i in inside_once b c c f f)))
    ∙ (sum_upto_add m (λ k. on (test_at b k z && is_inside (sets_of b) k c) (step k)) (λ k. on (eqb k c) (step k))
    ∙ ap (λ w. loss_upto b (is_inside (sets_of b)) H c z +ℤ w) (sum_upto_one m c step lc))
  where
    step : ℕ → ℤ
    step k = last_step b H (node_at b k)
