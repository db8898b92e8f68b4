-- A text that is put piece after piece.
use Rattle.std.proofs.Common.{◌≡◌, ◌+◌, ◌-◌, ◌≤◌, ℕ, zero, suc, List, [], ◌∷◌, length, take, drop, Option, refl, ap, arith}
use Rattle.std.proofs.lemmas.List.{length-take}
use Rattle.rm_base.specs.Text.{Text}
use Rattle.rm_outside.proofs.GainLemmas.{gains-more}
use Rattle.rm_outside.specs.Outside.{Gains, GainsPart}

-- a front of a front
front-of : (xs : Text) (k m : ℕ) → k ≤ m → take k (take m xs) ≡ take k xs
front-of xs zero m le = refl
front-of xs (suc k) zero le = absurd (omega (arith, le))
front-of [] (suc k) (suc m) le = refl
front-of (x ∷ xs) (suc k) (suc m) le = ap (λ (t : List ℕ). x ∷ t) (front-of xs k m (omega (arith, le)))

-- a front of the piece up to e
pub gains-part : (a b c : Option Text) (t : Text) (s e : ℕ) → s ≤ e → e ≤ length t → Gains a b (take s t) → GainsPart b c (take (e - s) (drop s t)) → GainsPart a c t
gains-part a b c t s e up within first (k, few, part) =
    let short : k ≤ e - s = omega (arith, few, length-take (e - s) (drop s t)) in
    (s + k, omega (arith, short, up, within), gains-more a b c t s k first (rw (front-of (drop s t) k (e - s) short) at part))
