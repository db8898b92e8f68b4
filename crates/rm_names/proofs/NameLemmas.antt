-- Names stay distinct where one that is not held is added.
use Rattle.std.proofs.Common.{◌≡◌, ◌<◌, ◌≤◌, ◌∙◌, ℕ, zero, suc, List, [], ◌∷◌, ◌++◌, length, map, slice_get, Some, None, inl, inr, refl, sym, ap, arith, length-append}
use Rattle.std.specs.Str.{bytes_eq}
use Rattle.std.proofs.lemmas.Slice.Eq.{bytes_eq-Decides}
use Rattle.std.proofs.lemmas.Option.{slice_get_within}
use Rattle.std.proofs.lemmas.Bool.{cases_lt}
use Rattle.rm_names.specs.Names.{place_of, AreDistinct}
use Rattle.rm_names.proofs.FirstPlaces.{position_push}

some-same : {X : Type 0} (x y : X) → Some x ≡ Some y → x ≡ y
some-same x y e = cc

get-front : {X : Type 0} (xs ys : List X) (n : ℕ) → n < length xs → slice_get (xs ++ ys) n ≡ slice_get xs n
get-front [] ys n h = absurd (omega (arith, h))
get-front (x ∷ xs) ys zero h = refl
get-front (x ∷ xs) ys (suc n) h = get-front xs ys n (omega (arith, h))

get-last : {X : Type 0} (xs : List X) (y : X) → slice_get (xs ++ y ∷ []) (length xs) ≡ Some y
get-last [] y = refl
get-last (x ∷ xs) y = get-last xs y

pub place-front : (names : List (List ℕ)) (name other : List ℕ) (n : ℕ) → place_of names name ≡ Some n → place_of (names ++ other ∷ []) name ≡ Some n
place-front names name other n at = position_push (bytes_eq name) names other ∙ rw at refl

pub place-last : (names : List (List ℕ)) (name : List ℕ) → place_of names name ≡ None → place_of (names ++ name ∷ []) name ≡ Some (length names)
place-last names name none = position_push (bytes_eq name) names name ∙ rw (none, (bytes_eq-Decides name name).1 refl) refl

pub distinct-more : (names : List (List ℕ)) (name : List ℕ) → AreDistinct names → place_of names name ≡ None → AreDistinct (names ++ name ∷ [])
distinct-more names name distinct none =
    let found : (n : ℕ) (x : List ℕ) → slice_get (names ++ name ∷ []) n ≡ Some x → place_of (names ++ name ∷ []) x ≡ Some n =
    λ n x at. (elim (cases_lt n (length names)) [
      | inl lt ↦ place-front names x name n (distinct.found n x (sym (get-front names (name ∷ []) n lt) ∙ at))
      | inr ge ↦
          let last : n ≡ length names = omega (arith, ge, slice_get_within (names ++ name ∷ []) n x at, length-append names (name ∷ [])) in
          let same : name ≡ x = some-same name x (sym (get-last names name) ∙ (rw last at at)) in
          rw (← same, last) (place-last names name none)
    ]) in
    record { found = found }
