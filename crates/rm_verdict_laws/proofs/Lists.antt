-- Lists of sets: what occurs in them, and what a filter or a test of all of them says.
use Rattle.std.proofs.Common.{◌≡◌, ℕ, zero, suc, ◌<◌, List, [], ◌∷◌, length, get_or, Bool, true, refl, sym, ap, ◌∙◌, subst, inl, inr, ⊎_elim, arith}
use Rattle.std.proofs.lemmas.Bool.{cond_both, and_parts, and_from}
use Rattle.std.specs.Prelude.{filter}
use Rattle.std.specs.List.{list_all, Contains}
use Rattle.rm_valuation_laws.proofs.BestOf.{Each, Occurs}

-- ---- lists of sets

pub all_occur : (p : List ℕ → Bool) (L : List (List ℕ)) → list_all p L ≡ true → (T : List ℕ) → Occurs T L → p T ≡ true
all_occur p [] h T o = absurd o
all_occur p (S ∷ L) h T o =
    let parts = and_parts (p S) (list_all p L) h in
    ⊎_elim (λ e. subst (λ z. p z ≡ true) e parts.0) (λ r. all_occur p L parts.1 T r) o

pub occur_all : (p : List ℕ → Bool) (L : List (List ℕ)) → ((T : List ℕ) → Occurs T L → p T ≡ true) → list_all p L ≡ true
occur_all p [] f = refl
occur_all p (S ∷ L) f = and_from (p S) (list_all p L) (f S (inl refl)) (occur_all p L (λ T o. f T (inr o)))

pub each_occurs : (P : List ℕ → Type 0) (L : List (List ℕ)) → Each P L → (T : List ℕ) → Occurs T L → P T
each_occurs P [] e T o = absurd o
each_occurs P (S ∷ L) e T o = ⊎_elim (λ same. subst P same e.0) (λ r. each_occurs P L e.1 T r) o

pub occurs_filter : (p : List ℕ → Bool) (L : List (List ℕ)) (T : List ℕ) → Occurs T L → p T ≡ true → Occurs T (filter p L)
occurs_filter p [] T o t = absurd o
occurs_filter p (S ∷ L) T o t =
    ⊎_elim
    (λ e. let here : p S ≡ true = ap p e ∙ t in rw here (inl e))
    (λ r. cond_both (p S) (S ∷ filter p L) (filter p L) (Occurs T) (λ h. inr (occurs_filter p L T r t)) (λ h. occurs_filter p L T r t))
    o

pub from_filter : (p : List ℕ → Bool) (L : List (List ℕ)) (T : List ℕ) → Occurs T (filter p L) → Occurs T L × (p T ≡ true)
from_filter p [] T o = absurd o
from_filter p (S ∷ L) T o =
    cond_both (p S) (S ∷ filter p L) (filter p L) (λ K. Occurs T K → Occurs T (S ∷ L) × (p T ≡ true))
    (λ t o. ⊎_elim (λ e. (inl e, sym (ap p e) ∙ t)) (λ r. let rest = from_filter p L T r in (inr rest.0, rest.1)) o)
    (λ f o. let rest = from_filter p L T o in (inr rest.0, rest.1))
    o

pub occurs_from_Contains : (L : List (List ℕ)) (T : List ℕ) → Contains L T → Occurs T L
occurs_from_Contains L T c = at L c.0 c.1 c.2
  where
    at : (L : List (List ℕ)) (k : ℕ) → k < length L → get_or L k T ≡ T → Occurs T L
    at [] k lt e = absurd (omega arith)
    at (S ∷ L) zero lt e = inl e
    at (S ∷ L) (suc k) lt e = inr (at L k (omega arith) e)

pub Contains-from_occurs : (L : List (List ℕ)) (T : List ℕ) → Occurs T L → Contains L T
Contains-from_occurs [] T o = absurd o
Contains-from_occurs (S ∷ L) T o =
    ⊎_elim
    (λ e. (zero, omega arith, e))
    (λ r. let c = Contains-from_occurs L T r in (suc c.0, more c.0 c.1, c.2))
    o
  where
    more : (k : ℕ) → k < length L → suc k < length (S ∷ L)
    more k lt = omega arith
