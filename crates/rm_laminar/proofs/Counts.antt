-- Counts that tell whether sets cross, and how deep a hospital lies.
use Rattle.std.proofs.Common.{◌≡◌, ◌∙◌, ℕ, ◌+◌, ◌<◌, ◌≤◌, List, [], ◌∷◌, ◌++◌, Bool, true, false, not, cond, ◌&&◌, ltb, eqb, get_or, length, count_by, position, Some, None, refl, sym, ap, subst, ⊎_elim, arith}
use Rattle.std.specs.Prelude.{nat_le}
use Rattle.std.specs.List.{list_any}
use Rattle.std.proofs.lemmas.Bool.{cases_lt, cases_eq, lt-ltb, le-ltb, eq-eqb, ne_eqb}
use Rattle.std.proofs.lemmas.List.Sums.{length-filter, position_or_len_is, sum_by_from, fold_push}
use Rattle.std.proofs.lemmas.List.Filters.{length-filter_both}
use Rattle.rm_sets.specs.Sets.{has, IsIn, IsSet, IsSetBelow, common, minus}
use Rattle.rm_sets.proofs.Sets.{IsIn-here, IsIn-later, same_sets, has-common, IsSet-common, not_both}
use Rattle.rm_sets.proofs.Members.{not_in_from}
use Rattle.rm_market.specs.Board.{crosses}
use Rattle.rm_market.specs.Tree.{tree_sets, is_inside}
use Rattle.rm_laminar.specs.Chains.{IsOrdered, AreChains}
use Rattle.rm_laminar.proofs.Order.{Asymmetric}
use Rattle.rm_laminar.proofs.Laminar.{inside-asymmetric}
use Rattle.rm_laminar.proofs.Trees.{tree-length, set-group}

-- ---- whether two sets cross

and_comm : (a b : Bool) → (a && b) ≡ (b && a)
and_comm true true = refl
and_comm true false = refl
and_comm false true = refl
and_comm false false = refl

common-comm : (A B : List ℕ) → IsSet A → IsSet B → common A B ≡ common B A
common-comm A B p q = same_sets (common A B) (common B A) (IsSet-common A B p) (IsSet-common B A q)
    (λ x. has-common A B x ∙ and_comm (has x A) (has x B) ∙ sym (has-common B A x))

shared-first : (A B : List ℕ) → length (common B A) ≡ count_by (λ y. has y A) B
unfolding common
shared-first A B = length-filter (λ y. has y A) B

parts : (A B : List ℕ) → length (common A B) + length (minus A B) ≡ length A
unfolding common minus
parts A B = length-filter_both (λ y. has y B) (λ y. not (has y B)) (λ y. refl) A

some-left : (c m a : ℕ) → c + m ≡ a → not (eqb m 0) ≡ ltb c a
some-left c m a e = ⊎_elim
    (λ less. rw (lt-ltb c a less, ne_eqb m 0 (λ none. omega arith)) refl)
    (λ le. rw (le-ltb c a le, eq-eqb m 0 (omega arith)) refl)
    (cases_lt c a)

pub crosses-by : (A B : List ℕ) (c : ℕ) → IsSet A → IsSet B → c ≡ count_by (λ y. has y A) B → crosses A B ≡ ((ltb 0 c && ltb c (length A)) && ltb c (length B))
crosses-by A B c p q is =
    let both : length (common B A) ≡ c = shared-first A B ∙ sym is in
    let same : length (common A B) ≡ c = ap length (common-comm A B p q) ∙ both in
    let first = some-left 0 (length (common A B)) c (omega (arith, same)) in
    let second = some-left c (length (minus A B)) (length A) (rw same at (parts A B)) in
    let third = some-left c (length (minus B A)) (length B) (rw both at (parts B A)) in
    rw (first, second, third) refl

-- ---- the first place

pub position-some : {X : Type 0} (p : X → Bool) (xs : List X) (i : ℕ) (d : X) → i < length xs → ((k : ℕ) → k < i → p (get_or xs k d) ≡ false) → p (get_or xs i d) ≡ true → position p xs ≡ Some i
position-some p xs i d lt before here =
    let place = position_or_len_is p xs i d (omega arith) before (λ _. here) in
    rw (place, lt-ltb i (length xs) lt) refl

pub position-none : {X : Type 0} (p : X → Bool) (xs : List X) (i : ℕ) (d : X) → length xs ≤ i → ((k : ℕ) → k < i → p (get_or xs k d) ≡ false) → position p xs ≡ None
position-none p xs i d le before =
    let place = position_or_len_is p xs (length xs) d (omega arith) (λ k lt. before k (omega arith)) (λ lt. absurd (omega arith)) in
    rw (place, le-ltb (length xs) (length xs) (omega arith)) refl

-- ---- how often a node stands in a chain

count-none : (xs : List ℕ) (k : ℕ) → has k xs ≡ false → count_by (λ j. eqb j k) xs ≡ 0
count-none [] k e = refl
count-none (x ∷ xs) k e = ⊎_elim
    (λ same. absurd (not_both (has k (x ∷ xs)) (subst (λ (y : ℕ). IsIn k (y ∷ xs)) (sym same) (IsIn-here k xs)) e))
    (λ apart. rw (ne_eqb x k apart, count-none xs k (not_in_from k xs (λ i. not_both (has k (x ∷ xs)) (IsIn-later k x xs i) e))) refl)
    (cases_eq x k)

pub count-once : (first : ℕ → ℕ → Bool) → Asymmetric first → (xs : List ℕ) (k : ℕ) → IsOrdered first xs → count_by (λ j. eqb j k) xs ≡ cond (has k xs) 1 0
unfolding IsOrdered
count-once first asym [] k p = refl
count-once first asym (x ∷ xs) k p = ⊎_elim
    (λ same.
    let none : has k xs ≡ false = not_in_from k xs (λ i. let f = subst (λ (y : ℕ). first x y ≡ true) (sym same) (p.0 k i) in asym x x f f) in
    rw (eq-eqb x k same, eq-eqb k x (sym same)) (sum_by_from (λ (j : ℕ). cond (eqb j k) 1 0) 1 xs ∙ rw (count-none xs k none) refl))
    (λ apart. rw (ne_eqb x k apart, ne_eqb k x (λ e. apart (sym e))) (count-once first asym xs k p.1))
    (cases_eq x k)

pub one-count : (hospitals : ℕ) (groups lists : List (List ℕ)) (h a : ℕ) → AreChains hospitals groups lists → h < hospitals → a < length groups
    → count_by (λ k. eqb k (hospitals + a)) (get_or lists h []) ≡ cond (has h (get_or groups a [])) 1 0
one-count hospitals groups lists h a c lt less =
    let chain = c.chains h lt in
    let there : has (hospitals + a) (get_or lists h []) ≡ has h (get_or groups a []) =
    chain.each (hospitals + a) ∙ rw (lt-ltb (hospitals + a) (length (tree_sets hospitals groups)) (rw (tree-length hospitals groups) (omega arith)), set-group hospitals groups a) refl
    in
    count-once (is_inside (tree_sets hospitals groups)) (inside-asymmetric (tree_sets hospitals groups)) (get_or lists h []) (hospitals + a) chain.ordered ∙ ap (λ (b : Bool). cond b 1 0) there

-- ---- depth

any-by : (p q : ℕ → Bool) (xs : List ℕ) → ((x : ℕ) → IsIn x xs → p x ≡ q x) → list_any p xs ≡ list_any q xs
any-by p q [] h = refl
any-by p q (x ∷ xs) h = rw (h x (IsIn-here x xs), any-by p q xs (λ y i. h y (IsIn-later y x xs i))) refl

pub count-push : {X : Type 0} (p : X → Bool) (xs : List X) (x : X) → count_by p (xs ++ x ∷ []) ≡ count_by p xs + cond (p x) 1 0
count-push {X = X} p xs x = fold_push (λ (a : ℕ) (y : X). a + cond (p y) 1 0) 0 xs x

pub deep-same : (hospitals : ℕ) (groups lists : List (List ℕ)) (group : List ℕ) → AreChains hospitals groups lists → IsSetBelow hospitals group
    → list_any (λ h. nat_le 32 (count_by (has h) (groups ++ group ∷ []))) group ≡ list_any (λ h. nat_le 32 (length (get_or lists h []))) group
deep-same hospitals groups lists group c s = any-by (λ h. nat_le 32 (count_by (has h) (groups ++ group ∷ []))) (λ h. nat_le 32 (length (get_or lists h []))) group
    (λ h i. ap (nat_le 32) (count-push (has h) groups group ∙ ap (λ (b : Bool). count_by (has h) groups + cond b 1 0) i ∙ sym (c.depths h (s.below h i))))
