-- The last run of a list.
use Rattle.std.proofs.Common.{◌≡◌, ◌-◌, List, [], ◌∷◌, length, Option, Some, None, refl, sym, ◌∙◌, arith}
use Rattle.std.specs.List.{last_or, slice_get}

last-get : {X : Type 0} (o : Option X) (x : X) (xs : List X) → last_or o (x ∷ xs) ≡ slice_get (x ∷ xs) (length xs)
last-get o x [] = refl
last-get o x (y ∷ ys) = last-get (Some x) y ys

pub last-is : {X : Type 0} (xs : List X) (q : X) → Some q ≡ slice_get xs (length xs - 1) → last_or None xs ≡ Some q
last-is [] q e = cc
last-is (x ∷ xs) q e =
    let shorter : length (x ∷ xs) - 1 ≡ length xs = omega arith in
    last-get None x xs ∙ sym (rw shorter at e)
