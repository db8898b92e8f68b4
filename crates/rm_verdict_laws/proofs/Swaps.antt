-- The first pair that a search over a list finds, in an ascending list the least.
use Rattle.std.proofs.Common.{◌≡◌, ◌⊎◌, ℕ, ◌<◌, List, [], ◌∷◌, Option, Some, None, refl, sym, ap, ◌∙◌, subst, inl, inr, ⊎_elim, arith}
use Rattle.std.specs.Prelude.{fold, option_map}
use Rattle.std.specs.Option.{option_or}
use Rattle.std.proofs.lemmas.List.Folds.{fold_stays}
use Rattle.rm_sets.specs.Sets.{IsIn, IsSet}
use Rattle.rm_sets.proofs.Sets.{IsIn-here, IsIn-later, IsIn-cases, IsSet-tail, IsSet-first}
use Rattle.rm_sets.proofs.Members.{not_in_nil}

pub cases_option : {A : Type 0} (o : Option A) → (o ≡ None) ⊎ ((x : A) × (o ≡ Some x))
cases_option None = inl refl
cases_option (Some x) = inr (x, refl)

-- ---- the first x of a list for which f gives some z

abbrev step : (ℕ → Option ℕ) → Option (ℕ × ℕ) → ℕ → Option (ℕ × ℕ)
step f found x = option_or found (option_map (λ z. (x, z)) (f x))

abbrev pub first_pair : (ℕ → Option ℕ) → List ℕ → Option (ℕ × ℕ)
first_pair f L = fold (λ found x. option_or found (option_map (λ z. (x, z)) (f x))) None L

stays : (f : ℕ → Option ℕ) (p : ℕ × ℕ) (L : List ℕ) → fold (step f) (Some p) L ≡ Some p
stays f p L = fold_stays (step f) (Some p) (λ x. refl) L

at_none : (f : ℕ → Option ℕ) (y : ℕ) (L : List ℕ) → f y ≡ None → first_pair f (y ∷ L) ≡ first_pair f L
at_none f y L e = rw e refl

at_some : (f : ℕ → Option ℕ) (y z : ℕ) (L : List ℕ) → f y ≡ Some z → first_pair f (y ∷ L) ≡ Some (y, z)
at_some f y z L e = rw e (stays f (y, z) L)

pub no_pair : (f : ℕ → Option ℕ) (L : List ℕ) → ((x : ℕ) → IsIn x L → f x ≡ None) → first_pair f L ≡ None
no_pair f [] none = refl
no_pair f (y ∷ L) none = at_none f y L (none y (IsIn-here y L)) ∙ no_pair f L (λ x i. none x (IsIn-later x y L i))

pub none_of : (f : ℕ → Option ℕ) (L : List ℕ) → first_pair f L ≡ None → (x : ℕ) → IsIn x L → f x ≡ None
none_of f [] e x i = absurd (not_in_nil x i)
none_of f (y ∷ L) e x i =
    ⊎_elim
    (λ n. ⊎_elim (λ same. subst (λ w. f w ≡ None) (sym same) n) (λ later. none_of f L (sym (at_none f y L n) ∙ e) x later) (IsIn-cases x y L i))
    (λ s. absurd (let found = at_some f y s.0 L s.1 in cc))
    (cases_option (f y))

pub pair_found : (f : ℕ → Option ℕ) (L : List ℕ) (x z : ℕ) → IsSet L → IsIn x L → f x ≡ Some z → ((y : ℕ) → IsIn y L → y < x → f y ≡ None) → first_pair f L ≡ Some (x, z)
pair_found f [] x z s i e none = absurd (not_in_nil x i)
pair_found f (y ∷ L) x z s i e none =
    ⊎_elim
    (λ same. subst (λ w. first_pair f (y ∷ L) ≡ Some (w, z)) (sym same) (at_some f y z L (subst (λ w. f w ≡ Some z) same e)))
    (λ later.
    let lt : y < x = IsSet-first y L s x later in
    at_none f y L (none y (IsIn-here y L) lt) ∙ pair_found f L x z (IsSet-tail y L s) later e (λ w j. none w (IsIn-later w y L j)))
    (IsIn-cases x y L i)

pub found_pair : (f : ℕ → Option ℕ) (L : List ℕ) (x z : ℕ) → IsSet L → first_pair f L ≡ Some (x, z) → IsIn x L × (f x ≡ Some z) × ((y : ℕ) → IsIn y L → y < x → f y ≡ None)
found_pair f [] x z s e = absurd cc
found_pair f (y ∷ L) x z s e =
    ⊎_elim
    (λ n.
    let rest = found_pair f L x z (IsSet-tail y L s) (sym (at_none f y L n) ∙ e) in
    (IsIn-later x y L rest.0, rest.1, λ w i lt. ⊎_elim (λ same. subst (λ u. f u ≡ None) (sym same) n) (λ later. rest.2 w later lt) (IsIn-cases w y L i)))
    (λ t.
    let found = at_some f y t.0 L t.1 in
    let p : ℕ × ℕ = (y, t.0) in
    let q : ℕ × ℕ = (x, z) in
    let pair : p ≡ q = cc in
    let same : y ≡ x = ap (λ p. p.0) pair in
    let second : t.0 ≡ z = ap (λ p. p.1) pair in
    (subst (λ w. IsIn w (y ∷ L)) same (IsIn-here y L), subst (λ w. f w ≡ Some z) same (t.1 ∙ ap Some second), λ w i lt. ⊎_elim (λ e2. absurd (omega arith)) (λ later. let up : y < w = IsSet-first y L s w later in absurd (omega arith)) (IsIn-cases w y L i)))
    (cases_option (f y))
