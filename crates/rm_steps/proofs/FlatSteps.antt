-- Steps of 0.
use Rattle.std.proofs.Common.{◌≡◌, ◌∙◌, ◌≤◌, ℕ, zero, suc, ℤ, pos, ◌-ℤ◌, ◌*ℤ◌, ◌≤ℤ◌, true, List, [], ◌∷◌, ◌++◌, replicate, refl, sym, ap, arith}
use Rattle.std.proofs.lemmas.Int.{ints}
use Rattle.std.proofs.lemmas.List.{append-nil, map-append, length-replicate}
use Rattle.std.proofs.lemmas.List.Elements.{All-nil, All-cons, All-replicate}
use Rattle.std.proofs.Math.IntN.{pos-*ℤ-pos}
use Rattle.rm_sets.specs.Sets.{all_below}
use Rattle.rm_market.specs.Steps.{steps_of, run_steps, AreSteps}
use Rattle.rm_market.specs.declared.Run.{Run}
use Rattle.rm_steps.specs.Runs.{AreKept}
use Rattle.rm_steps.proofs.Falling.{Falls, falling, steps_below}
use Rattle.rm_steps.proofs.Accepted.{InRange}

replicate-push : (n : ℕ) (z : ℤ) → replicate n z ++ z ∷ [] ≡ replicate (suc n) z
replicate-push zero z = refl
replicate-push (suc n) z = ap (λ (zs : List ℤ). z ∷ zs) (replicate-push n z)

zeros : (n : ℕ) → steps_below (pos 0) (pos 0) n ≡ replicate n (pos 0)
zeros zero = refl
zeros (suc n) =
    let none : pos 0 -ℤ (pos 0 *ℤ pos n) ≡ pos 0 = rw (pos-*ℤ-pos 0 n) (omega (arith, ints)) in
    rw (map-append (λ (k : ℕ). pos 0 -ℤ (pos 0 *ℤ pos k)) (all_below n (λ k. true)) (n ∷ []), zeros n, none) (replicate-push n (pos 0))

flat-falls : (n : ℕ) → Falls (replicate n (pos 0))
unfolding Falls
flat-falls zero = tt
flat-falls (suc n) = (All-replicate (λ (y : ℤ). y ≤ℤ pos 0) n (pos 0) (omega (arith, ints)), flat-falls n)

abbrev pub flat_run : ℕ → Run
flat_run n = record { value = pos 0; fall = pos 0; count = pos n }

pub flat-steps : (n : ℕ) → steps_of (flat_run n ∷ []) ≡ replicate n (pos 0)
unfolding steps_of
flat-steps n = append-nil (run_steps (flat_run n)) ∙ zeros n

pub are-steps : (n : ℕ) → n ≤ 1000000 → AreSteps (replicate n (pos 0))
are-steps n few = record {
  falling = falling (replicate n (pos 0)) (flat-falls n);
  in_range = All-replicate InRange n (pos 0) (omega (arith, ints), omega (arith, ints));
  few = rw (length-replicate n (pos 0)) (omega (arith, ints));
}

pub flat-kept : (n : ℕ) → ¬ (n ≡ 0) → n ≤ 1000000 → AreKept (flat_run n ∷ []) n
flat-kept n some few = record {
  counted = All-cons (λ (r : Run). pos 1 ≤ℤ r.count) (flat_run n) [] (omega (arith, ints, some)) (All-nil (λ (r : Run). pos 1 ≤ℤ r.count));
  steps = rw (flat-steps n) (are-steps n few);
  cap_is = rw (flat-steps n) (sym (length-replicate n (pos 0)));
}

pub none-kept : AreKept [] 0
unfolding steps_of
none-kept = record { counted = All-nil (λ (r : Run). pos 1 ≤ℤ r.count); steps = are-steps 0 (omega arith); cap_is = refl }
