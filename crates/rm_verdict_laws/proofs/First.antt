-- The first member of an ascending list that passes a test is the least one.
use Rattle.std.proofs.Common.{◌≡◌, ℕ, ◌<◌, ◌≤◌, List, [], ◌∷◌, Bool, true, false, Some, None, refl, sym, subst, ⊎_elim, arith}
use Rattle.std.proofs.lemmas.Bool.{cond_both}
use Rattle.std.specs.Prelude.{find}
use Rattle.rm_sets.specs.Sets.{IsIn, IsSet, IsLeast}
use Rattle.rm_sets.proofs.Sets.{IsIn-here, IsIn-later, IsIn-cases, IsSet-tail, IsSet-first, not_both}
use Rattle.rm_sets.proofs.Members.{not_in_nil}

pub none_passes : (p : ℕ → Bool) (S : List ℕ) → find p S ≡ None → (x : ℕ) → IsIn x S → p x ≡ false
none_passes p [] e x h = absurd (not_in_nil x h)
none_passes p (y ∷ S) e x h =
    cond_both (p y) (Some y) (find p S) (λ o. o ≡ None → p x ≡ false)
    (λ t e. absurd cc)
    (λ f e. ⊎_elim (λ same. subst (λ z. p z ≡ false) (sym same) f) (λ later. none_passes p S e x later) (IsIn-cases x y S h))
    e

pub none_found : (p : ℕ → Bool) (S : List ℕ) → ((x : ℕ) → IsIn x S → p x ≡ false) → find p S ≡ None
none_found p [] none = refl
none_found p (y ∷ S) none = rw (none y (IsIn-here y S)) (none_found p S (λ x h. none x (IsIn-later x y S h)))

pub least_found : (p : ℕ → Bool) (S : List ℕ) (x : ℕ) → IsSet S → IsLeast p S x → find p S ≡ Some x
least_found p [] x s h = absurd (not_in_nil x h.member)
least_found p (y ∷ S) x s h =
    ⊎_elim
    (λ same. let t : p y ≡ true = subst (λ z. p z ≡ true) same h.passes in rw (t, same) refl)
    (λ later.
    let lt : y < x = IsSet-first y S s x later in
    cond_both (p y) (Some y) (find p S) (λ o. o ≡ Some x)
    (λ t. let le : x ≤ y = h.least y (IsIn-here y S) t in absurd (omega arith))
    (λ f. least_found p S x (IsSet-tail y S s) (record { member = later; passes = h.passes; least = λ z i t. h.least z (IsIn-later z y S i) t })))
    (IsIn-cases x y S h.member)

pub found_least : (p : ℕ → Bool) (S : List ℕ) (x : ℕ) → IsSet S → find p S ≡ Some x → IsLeast p S x
found_least p [] x s e = absurd cc
found_least p (y ∷ S) x s e =
    cond_both (p y) (Some y) (find p S) (λ o. o ≡ Some x → IsLeast p (y ∷ S) x)
    (λ t e.
    let same : y ≡ x = cc in
    subst (IsLeast p (y ∷ S)) same (record {
      member = IsIn-here y S;
      passes = t;
      least = λ z i t2. ⊎_elim (λ e2. omega arith) (λ later. let lt : y < z = IsSet-first y S s z later in omega arith) (IsIn-cases z y S i);
    }))
    (λ f e.
    let rest = found_least p S x (IsSet-tail y S s) e in
    record {
      member = IsIn-later x y S rest.member;
      passes = rest.passes;
      least = λ z i t. ⊎_elim (λ same. absurd (not_both (p y) (subst (λ w. p w ≡ true) same t) f)) (λ later. rest.least z later t) (IsIn-cases z y S i);
    })
    e
