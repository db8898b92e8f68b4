-- Families of tests of which any two are nested or apart: the union of tests that favour S favours S, and the least test that a contract passes.
use Rattle.std.proofs.Common.{◌≡◌, ℕ, zero, suc, ◌<◌, ◌≤◌, List, Bool, true, false, not, ◌&&◌, ◌||◌, ◌⊎◌, count_by, refl, sym, ◌∙◌, subst, inl, inr, ⊎_elim, arith, true≢false}
use Rattle.std.proofs.lemmas.Bool.{cases_Bool, cases_eq, or_cases, or_left, or_right, and_parts, and_from, not-true, not_from_false, false_from_ne_true}
use Rattle.rm_valuation_laws.specs.Offers.{IsInside}
use Rattle.rm_sets.proofs.Sets.{not_both, same_tests}
use Rattle.rm_valuation_laws.proofs.Counts.{count_same, count_none, count_or}

abbrev pub IsApart : (ℕ → Bool) → (ℕ → Bool) → Type 0
IsApart p q = (x : ℕ) → p x ≡ true → q x ≡ true → ⊥

-- nested one way or the other, or apart
abbrev pub IsNested : (ℕ → Bool) → (ℕ → Bool) → Type 0
IsNested p q = IsInside p q ⊎ (IsInside q p ⊎ IsApart p q)

-- the tests below m
abbrev pub IsLaminar : ℕ → (ℕ → ℕ → Bool) → Type 0
IsLaminar m f = (a b : ℕ) → a < m → b < m → IsNested (f a) (f b)

abbrev pub either : ℕ → (ℕ → ℕ → Bool) → ℕ → Bool
either zero f x = false
either (suc k) f x = f k x || either k f x

-- ---- a family cut down to a part of the contracts

abbrev pub both : (ℕ → Bool) → (ℕ → Bool) → ℕ → Bool
both p r x = p x && r x

pub nested_both : (p q r : ℕ → Bool) → IsNested p q → IsNested (both p r) (both q r)
nested_both p q r h =
    ⊎_elim
    (λ w. inl (λ x t. let parts = and_parts (p x) (r x) t in and_from (q x) (r x) (w x parts.0) parts.1))
    (λ rest. ⊎_elim
    (λ w. inr (inl (λ x t. let parts = and_parts (q x) (r x) t in and_from (p x) (r x) (w x parts.0) parts.1)))
    (λ apart. inr (inr (λ x t u. apart x (and_parts (p x) (r x) t).0 (and_parts (q x) (r x) u).0)))
    rest)
    h

-- a test that is left out passes nothing
abbrev pub kept : Bool → (ℕ → Bool) → ℕ → Bool
kept c p x = c && p x

pub nested_kept : (c d : Bool) (p q : ℕ → Bool) → IsNested p q → IsNested (kept c p) (kept d q)
nested_kept false d p q h = inl (λ x t. absurd (true≢false (sym t)))
nested_kept true false p q h = inr (inl (λ x t. absurd (true≢false (sym t))))
nested_kept true true p q h = h

-- ---- the union

-- some test below k holds p, or each is inside p or apart from it
find_outer : (f : ℕ → ℕ → Bool) (p : ℕ → Bool) (k : ℕ) → ((a : ℕ) → a < k → IsNested (f a) p) →
    ((a : ℕ) × (a < k) × IsInside p (f a)) ⊎ ((a : ℕ) → a < k → IsInside (f a) p ⊎ IsApart (f a) p)
find_outer f p zero nested = inr (λ a lt. absurd (omega arith))
find_outer f p (suc k) nested =
    ⊎_elim
    (λ found. inl (found.0, omega arith, found.2))
    (λ none. here none (nested k (omega arith)))
    (find_outer f p k (λ a lt. nested a (omega arith)))
  where
    more : ((a : ℕ) → a < k → IsInside (f a) p ⊎ IsApart (f a) p) → IsInside (f k) p ⊎ IsApart (f k) p → (a : ℕ) → a < suc k → IsInside (f a) p ⊎ IsApart (f a) p
    more none at a lt = ⊎_elim (λ e. subst (λ z. IsInside (f z) p ⊎ IsApart (f z) p) (sym e) at) (λ ne. none a (omega arith)) (cases_eq a k)

    here : ((a : ℕ) → a < k → IsInside (f a) p ⊎ IsApart (f a) p) → IsNested (f k) p → ((a : ℕ) × (a < suc k) × IsInside p (f a)) ⊎ ((a : ℕ) → a < suc k → IsInside (f a) p ⊎ IsApart (f a) p)
    here none n =
        ⊎_elim
        (λ w. inr (more none (inl w)))
        (λ rest. ⊎_elim (λ w. inl (k, omega arith, w)) (λ apart. inr (more none (inr apart))) rest)
        n

either_at : (f : ℕ → ℕ → Bool) (k a x : ℕ) → a < k → f a x ≡ true → either k f x ≡ true
either_at f zero a x lt h = absurd (omega arith)
either_at f (suc k) a x lt h =
    ⊎_elim
    (λ e. or_left (f k x) (either k f x) (subst (λ z. f z x ≡ true) e h))
    (λ ne. or_right (f k x) (either k f x) (either_at f k a x (omega arith) h))
    (cases_eq a k)

pub either_from : (f : ℕ → ℕ → Bool) (k x : ℕ) → either k f x ≡ true → (a : ℕ) × (a < k) × (f a x ≡ true)
either_from f zero x h = absurd (true≢false (sym h))
either_from f (suc k) x h =
    ⊎_elim
    (λ here. (k, omega arith, here))
    (λ rest. let r = either_from f k x rest in (r.0, omega arith, r.2))
    (or_cases (f k x) (either k f x) h)

pub not_either : (f : ℕ → ℕ → Bool) (k a x : ℕ) → a < k → either k f x ≡ false → f a x ≡ false
not_either f k a x lt out = false_from_ne_true (f a x) (λ h. not_both (either k f x) (either_at f k a x lt h) out)

-- the union of k tests and one more, less what the one more passes
either_less : (f : ℕ → ℕ → Bool) (p : ℕ → Bool) (k x : ℕ) → (p x || either k (λ a. both (f a) (λ y. not (p y))) x) ≡ (p x || either k f x)
either_less f p k x =
    same_tests (p x || either k (λ a. both (f a) (λ y. not (p y))) x) (p x || either k f x)
    (λ h. ⊎_elim
    (λ t. or_left (p x) (either k f x) t)
    (λ t. let r = either_from (λ a. both (f a) (λ y. not (p y))) k x t in or_right (p x) (either k f x) (either_at f k r.0 x r.1 (and_parts (f r.0 x) (not (p x)) r.2).0))
    (or_cases (p x) (either k (λ a. both (f a) (λ y. not (p y))) x) h))
    (λ h. ⊎_elim
    (λ t. or_left (p x) (either k (λ a. both (f a) (λ y. not (p y))) x) t)
    (λ out. ⊎_elim
    (λ t. absurd (not_both (p x) t out))
    (λ t. let r = either_from f k x t in
    or_right (p x) (either k (λ a. both (f a) (λ y. not (p y))) x) (either_at (λ a. both (f a) (λ y. not (p y))) k r.0 x r.1 (and_from (f r.0 x) (not (p x)) r.2 (not_from_false (p x) out))))
    (or_cases (p x) (either k f x) h))
    (cases_Bool (p x)))

-- S has no fewer than T
abbrev pub Favours : List ℕ → List ℕ → (ℕ → Bool) → Type 0
Favours S T p = count_by p T ≤ count_by p S

favours_none : (S T : List ℕ) (p : ℕ → Bool) → ((x : ℕ) → p x ≡ false) → Favours S T p
favours_none S T p e =
    let s = count_same p (λ x. false) S e ∙ count_none S in
    let t = count_same p (λ x. false) T e ∙ count_none T in
    omega arith

favours_same : (S T : List ℕ) (p q : ℕ → Bool) → ((x : ℕ) → p x ≡ q x) → Favours S T p → Favours S T q
favours_same S T p q e h =
    let s = count_same p q S e in
    let t = count_same p q T e in
    omega arith

and_no : (a b : Bool) → (a ≡ true → b ≡ true) → (a && not b) ≡ false
and_no true true f = refl
and_no true false f = absurd (true≢false (sym (f refl)))
and_no false b f = refl

and_yes : (a b : Bool) → (a ≡ true → b ≡ true → ⊥) → a ≡ (a && not b)
and_yes true true f = absurd (f refl refl)
and_yes true false f = refl
and_yes false b f = refl

pub union_favours : (S T : List ℕ) (k : ℕ) (f : ℕ → ℕ → Bool) → IsLaminar k f → ((a : ℕ) → a < k → Favours S T (f a)) → Favours S T (either k f)
union_favours S T zero f nested each = favours_none S T (λ x. false) (λ x. refl)
union_favours S T (suc k) f nested each =
    ⊎_elim
    (λ found.
    favours_same S T (either k f) (either (suc k) f)
    (λ x. same_tests (either k f x) (f k x || either k f x)
    (λ h. or_right (f k x) (either k f x) h)
    (λ h. ⊎_elim (λ t. either_at f k found.0 x found.1 (found.2 x t)) (λ t. t) (or_cases (f k x) (either k f x) h)))
    (union_favours S T k f (λ a b la lb. nested a b (omega arith) (omega arith)) (λ a lt. each a (omega arith))))
    (λ none.
    let cut = λ (a : ℕ). both (f a) (λ y. not (f k y)) in
    let rest = union_favours S T k cut
    (λ a b la lb. nested_both (f a) (f b) (λ y. not (f k y)) (nested a b (omega arith) (omega arith)))
    (λ a lt. ⊎_elim
    (λ w. favours_none S T (cut a) (λ x. and_no (f a x) (f k x) (w x)))
    (λ apart. favours_same S T (f a) (cut a) (λ x. and_yes (f a x) (f k x) (apart x)) (each a (omega arith)))
    (none a lt)) in
    let here = each k (omega arith) in
    let never = λ (x : ℕ) (t : f k x ≡ true) (u : either k cut x ≡ true).
    (let r = either_from cut k x u in not_both (f k x) t (not-true (f k x) (and_parts (f r.0 x) (not (f k x)) r.2).1)) in
    let s = count_or (f k) (either k cut) S never in
    let t = count_or (f k) (either k cut) T never in
    favours_same S T (λ x. f k x || either k cut x) (either (suc k) f) (λ x. either_less f (f k) k x) (omega arith))
    (find_outer f (f k) k (λ a lt. nested a k (omega arith) (omega arith)))
