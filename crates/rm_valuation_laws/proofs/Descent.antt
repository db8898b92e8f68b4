-- A contract of T, and not of S, in which every test that it passes has more of T; and the least test that a contract passes.
use Rattle.std.proofs.Common.{◌≡◌, ℕ, zero, suc, ◌<◌, ◌≤◌, List, Bool, true, false, not, ◌&&◌, ◌⊎◌, nat_le, count_by, refl, sym, subst, inl, inr, ⊎_elim, arith}
use Rattle.std.proofs.lemmas.Bool.{cases_Bool, cases_eq, and_parts, not-true, leb-true, leb-false}
use Rattle.rm_sets.specs.Sets.{has, IsIn, IsSet}
use Rattle.rm_sets.proofs.Sets.{not_both}
use Rattle.rm_valuation_laws.specs.Offers.{IsInside}
use Rattle.rm_valuation_laws.proofs.Counts.{count_same, count_none, count_split, picked}
use Rattle.rm_valuation_laws.proofs.Unions.{IsLaminar, either, both, nested_both, kept, nested_kept, either_from, not_either, Favours, union_favours}

-- whether S has no fewer than T, of what passes both tests
abbrev favours : List ℕ → List ℕ → (ℕ → Bool) → (ℕ → Bool) → Bool
favours S T p r = nat_le (count_by (both p r) T) (count_by (both p r) S)

both_inside : (a b : Bool) → (b ≡ true → a ≡ true) → (a && b) ≡ b
both_inside true b f = refl
both_inside false true f = f refl
both_inside false false f = refl

-- what a contract outside the union passes has more of T
more_of_T : (c favour p r : Bool) → (c && favour && (p && r)) ≡ false → c ≡ true → p ≡ true → r ≡ true → favour ≡ false
more_of_T c true p r h e f g = absurd (not_both (c && true && (p && r)) (rw (e, f, g) refl) h)
more_of_T c false p r h e f g = refl

pub descent : (S T : List ℕ) → IsSet S → IsSet T → (m : ℕ) (f : ℕ → ℕ → Bool) → IsLaminar m f → (r c : ℕ → Bool) → count_by r S < count_by r T →
    (j : ℕ) × IsIn j T × (has j S ≡ false) × (r j ≡ true) × ((a : ℕ) → a < m → c a ≡ true → f a j ≡ true → count_by (both (f a) r) S < count_by (both (f a) r) T)
descent S T sS sT m f nested r c less =
    let g = λ (a : ℕ). kept (c a && favours S T (f a) r) (both (f a) r) in
    let u = either m g in
    let union : Favours S T u = union_favours S T m g
    (λ a b la lb. nested_kept (c a && favours S T (f a) r) (c b && favours S T (f b) r) (both (f a) r) (both (f b) r) (nested_both (f a) (f b) r (nested a b la lb)))
    (λ a lt. each a) in
    let inside = λ (x : ℕ). both_inside (r x) (u x) (λ t. let p = either_from g m x t in (and_parts (f p.0 x) (r x) (and_parts (c p.0 && favours S T (f p.0) r) (both (f p.0) r x) p.2).1).1) in
    let sS1 = count_split r u S in
    let sT1 = count_split r u T in
    let sS2 = count_same (λ x. r x && u x) u S inside in
    let sT2 = count_same (λ x. r x && u x) u T inside in
    let p = picked (λ x. r x && not (u x)) S T sS sT (omega arith) in
    let j = p.0 in
    let parts = and_parts (r j) (not (u j)) p.3 in (
      j,
      p.1,
      p.2,
      parts.0,
      λ a lt ca fa.
          let out = not_either g m a j lt (not-true (u j) parts.1) in
          leb-false (count_by (both (f a) r) T) (count_by (both (f a) r) S) (more_of_T (c a) (favours S T (f a) r) (f a j) (r j) out ca fa parts.0),
    )
  where
    each : (a : ℕ) → Favours S T (kept (c a && favours S T (f a) r) (both (f a) r))
    each a = at (c a && favours S T (f a) r) refl
      where
        at : (b : Bool) → (c a && favours S T (f a) r) ≡ b → Favours S T (kept b (both (f a) r))
        at true e = leb-true (count_by (both (f a) r) T) (count_by (both (f a) r) S) (and_parts (c a) (favours S T (f a) r) e).1
        at false e = let s = count_none S in let t = count_none T in omega arith

-- of the tests that pass t, all of which i passes, there is a least one
pub least_test : (m : ℕ) (f : ℕ → ℕ → Bool) (i : ℕ) (t : ℕ → Bool) → IsLaminar m f → ((a : ℕ) → t a ≡ true → f a i ≡ true) → (k : ℕ) → k ≤ m →
    ((b : ℕ) → b < k → t b ≡ false) ⊎ ((a : ℕ) × (a < k) × (t a ≡ true) × ((b : ℕ) → b < k → t b ≡ true → IsInside (f a) (f b)))
least_test m f i t nested holds zero le = inl (λ b lt. absurd (omega arith))
least_test m f i t nested holds (suc k) le =
    ⊎_elim
    (λ passes. ⊎_elim
    (λ none. inr (k, omega arith, passes, λ b lt h x u. ⊎_elim (λ e. subst (λ z. f z x ≡ true) (sym e) u) (λ ne. absurd (not_both (t b) h (none b (omega arith)))) (cases_eq b k)))
    (λ some. ⊎_elim
    (λ w. inr (some.0, omega arith, some.2, λ b lt h x u. ⊎_elim (λ e. subst (λ z. f z x ≡ true) (sym e) (w x u)) (λ ne. some.3 b (omega arith) h x u) (cases_eq b k)))
    (λ rest. ⊎_elim
    (λ w. inr (k, omega arith, passes, λ b lt h x u. ⊎_elim (λ e. subst (λ z. f z x ≡ true) (sym e) u) (λ ne. some.3 b (omega arith) h x (w x u)) (cases_eq b k)))
    (λ apart. absurd (apart i (holds some.0 some.2) (holds k passes)))
    rest)
    (nested some.0 k (omega arith) (omega arith)))
    (least_test m f i t nested holds k (omega arith)))
    (λ fails. ⊎_elim
    (λ none. inl (λ b lt. ⊎_elim (λ e. subst (λ z. t z ≡ false) (sym e) fails) (λ ne. none b (omega arith)) (cases_eq b k)))
    (λ some. inr (some.0, omega arith, some.2, λ b lt h. ⊎_elim (λ e. absurd (not_both (t b) h (subst (λ z. t z ≡ false) (sym e) fails))) (λ ne. some.3 b (omega arith) h) (cases_eq b k)))
    (least_test m f i t nested holds k (omega arith)))
    (cases_Bool (t k))
