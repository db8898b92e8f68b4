-- Runs without a fault.
use Rattle.std.proofs.Common.{◌≡◌, ◌+◌, ◌-◌, ◌<◌, ◌≤◌, ◌⊎◌, inl, inr, ℕ, ℤ, pos, negsuc, ◌+ℤ◌, ◌-ℤ◌, ◌*ℤ◌, ◌≤ℤ◌, Bool, true, false, List, [], ◌∷◌, ◌++◌, length, map, Option, Some, None, refl, ap, arith, length-append}
use Rattle.std.specs.Prelude.{int_lt, ◌||◌, ◌&&◌}
use Rattle.std.proofs.lemmas.Int.{ints}
use Rattle.std.proofs.lemmas.List.{length-map, map-append}
use Rattle.std.proofs.lemmas.List.Elements.{All-nil, All-cons, All-head, All-tail, All-append, All-weaker}
use Rattle.std.proofs.Math.IntN.{*ℤ-zero}
use Rattle.rm_market.specs.declared.StepFault.TheVariants.{Range, NotConcave}
use Rattle.std.specs.List.{All, last_or}
use Rattle.std.specs.Option.{option_map_or}
use Rattle.rm_base.specs.Checks.{check, first_of, checks_from}
use Rattle.rm_market.specs.Board.{int_sum}
use Rattle.rm_market.specs.Steps.{most_steps, greatest_step, last_step_of_run, natural, run_steps, steps_of, is_outside, is_out_of_range, rises, run_checks, step_fault, AreSteps}
use Rattle.rm_market.specs.declared.Run.{Run}
use Rattle.rm_market.specs.declared.StepFault.{StepFault}
use Rattle.rm_steps.proofs.Falling.{Falls, Falls-append, falling, lower, all-steps, run-falls-or-single, length-below}

or-false : (a b : Bool) → (a || b) ≡ false → (a ≡ false) × (b ≡ false)
or-false true b e = cc
or-false false b e = (refl, e)

not-less : (a b : ℤ) → int_lt a b ≡ false → b ≤ℤ a
not-less a b e = grind (arith, ints)

abbrev pub InRange : ℤ → Type 0
InRange z = ((pos 0 -ℤ greatest_step) ≤ℤ z) × (z ≤ℤ greatest_step)

in-range : (z : ℤ) → is_outside z ≡ false → InRange z
in-range z e =
    let both = or-false (int_lt greatest_step z) (int_lt z (pos 0 -ℤ greatest_step)) e in
    (not-less z (pos 0 -ℤ greatest_step) both.1, not-less greatest_step z both.0)

-- what a run is that passes its checks
pub record Passed (before : List Run) (r : Run) : Type 0 where
  pub counted : pos 1 ≤ℤ r.count
  pub few : (int_sum (map (λ q. q.count) before) +ℤ r.count) ≤ℤ most_steps
  pub first : InRange r.value
  pub last : InRange (last_step_of_run r)
  pub level : (r.count ≤ℤ pos 1) ⊎ (pos 0 ≤ℤ r.fall)
  pub after : option_map_or (λ q. int_lt (last_step_of_run q) r.value) (last_or None before) false ≡ false

and-false : (a b : Bool) → (a && b) ≡ false → (a ≡ false) ⊎ (b ≡ false)
and-false true b e = inr e
and-false false b e = inl refl

level-of : (r : Run) → (int_lt (pos 1) r.count && int_lt r.fall (pos 0)) ≡ false → (r.count ≤ℤ pos 1) ⊎ (pos 0 ≤ℤ r.fall)
level-of r e =
    elim (and-false (int_lt (pos 1) r.count) (int_lt r.fall (pos 0)) e) [
      | inl single ↦ inl (not-less (pos 1) r.count single)
      | inr falls ↦ inr (not-less r.fall (pos 0) falls)
    ]

pub passed-by : (before : List Run) (r : Run) → is_out_of_range before r ≡ false → rises before r ≡ false → Passed before r
passed-by before r range falls =
    let sum : ℤ = int_sum (map (λ (q : Run). q.count) before) +ℤ r.count in
    let a = or-false (((int_lt r.count (pos 1) || int_lt most_steps r.count) || int_lt most_steps sum) || is_outside r.value) (is_outside (last_step_of_run r)) range in
    let b = or-false ((int_lt r.count (pos 1) || int_lt most_steps r.count) || int_lt most_steps sum) (is_outside r.value) a.0 in
    let d = or-false (int_lt r.count (pos 1) || int_lt most_steps r.count) (int_lt most_steps sum) b.0 in
    let e = or-false (int_lt r.count (pos 1)) (int_lt most_steps r.count) d.0 in
    let f = or-false (int_lt (pos 1) r.count && int_lt r.fall (pos 0)) (option_map_or (λ (q : Run). int_lt (last_step_of_run q) r.value) (last_or None before) false) falls in
    record {
      counted = not-less r.count (pos 1) e.0;
      few = not-less most_steps sum d.1;
      first = in-range r.value b.1;
      last = in-range (last_step_of_run r) a.1;
      level = level-of r f.0;
      after = f.1;
    }

pub both-none : (p q : Bool) (f g : StepFault) (rest : List (Option StepFault)) → first_of ((check p f ∷ check q g ∷ []) ++ rest) ≡ None → (p ≡ false) × (q ≡ false) × (first_of rest ≡ None)
both-none true q f g rest e = cc
both-none false true f g rest e = cc
both-none false false f g rest e = (refl, refl, e)

-- ---- the steps of a run that passed

pub natural-of : (z : ℤ) → pos 1 ≤ℤ z → pos (natural z) ≡ z
natural-of (pos n) h = refl
natural-of (negsuc n) h = absurd (omega (arith, ints))

pub run-length : (r : Run) → length (run_steps r) ≡ natural r.count
run-length r = rw length-map (length-below (natural r.count))

last-at : (before : List Run) (r : Run) → Passed before r → last_step_of_run r ≡ r.value -ℤ (r.fall *ℤ pos (natural r.count - 1))
last-at before r p =
    let n = natural-of r.count p.counted in
    let same : r.count -ℤ pos 1 ≡ pos (natural r.count - 1) = omega (arith, ints, n, p.counted) in
    ap (λ (z : ℤ). r.value -ℤ (r.fall *ℤ z)) same

first-at : (v f : ℤ) → v -ℤ (f *ℤ pos 0) ≡ v
first-at v f = rw *ℤ-zero (omega (arith, ints))

-- each step of a run is at most the first and at least the last
step-between : (before : List Run) (r : Run) (k : ℕ) → Passed before r → k < natural r.count → (last_step_of_run r ≤ℤ (r.value -ℤ (r.fall *ℤ pos k))) × ((r.value -ℤ (r.fall *ℤ pos k)) ≤ℤ r.value)
step-between before r k p lt =
    let n = natural-of r.count p.counted in
    elim p.level [
      | inr low ↦ (
        rw (last-at before r p) (lower r.value r.fall k (natural r.count - 1) low (omega arith)),
        rw (first-at r.value r.fall) at (lower r.value r.fall 0 k low (omega arith)),
      )
      | inl single ↦
          let one : natural r.count ≡ 1 = omega (arith, ints, n, p.counted, single) in
          let none : k ≡ 0 = omega arith in
          (rw (last-at before r p, one, none) (omega (arith, ints)), rw (none, first-at r.value r.fall) (omega (arith, ints)))
    ]

run-between : (before : List Run) (r : Run) (P : ℤ → Type 0) → Passed before r → ((z : ℤ) → last_step_of_run r ≤ℤ z → z ≤ℤ r.value → P z) → All P (run_steps r)
run-between before r P p h = all-steps P r.value r.fall (natural r.count) (λ k lt.
    let b = step-between before r k p lt in h (r.value -ℤ (r.fall *ℤ pos k)) b.0 b.1)

-- ---- the steps of runs in a row, after those before

pub record Fall (before runs : List Run) : Type 0 where
  pub falls : Falls (steps_of runs)
  pub below : (q : Run) → last_or None before ≡ Some q → All (λ y. y ≤ℤ last_step_of_run q) (steps_of runs)
  pub in_range : All InRange (steps_of runs)
  pub counted : All (λ r. pos 1 ≤ℤ r.count) runs
  pub few : int_sum (map (λ q. q.count) before) ≤ℤ most_steps → (int_sum (map (λ q. q.count) before) +ℤ int_sum (map (λ q. q.count) runs)) ≤ℤ most_steps

last-push : {X : Type 0} (o : Option X) (xs : List X) (x : X) → last_or o (xs ++ x ∷ []) ≡ Some x
last-push o [] x = refl
last-push o (y ∷ ys) x = last-push (Some y) ys x

pub sum-append : (xs ys : List ℤ) → int_sum (xs ++ ys) ≡ int_sum xs +ℤ int_sum ys
sum-append [] ys = omega (arith, ints)
sum-append (x ∷ xs) ys = rw (sum-append xs ys) (omega (arith, ints))

pub count-push : (before : List Run) (r : Run) → int_sum (map (λ q. q.count) (before ++ r ∷ [])) ≡ int_sum (map (λ q. q.count) before) +ℤ r.count
count-push before r =
    rw (map-append (λ (q : Run). q.count) before (r ∷ []), sum-append (map (λ (q : Run). q.count) before) (r.count ∷ [])) (omega (arith, ints))

one-more : (before : List Run) (r : Run) (rs : List Run) → Passed before r → Fall (before ++ r ∷ []) rs → Fall before (r ∷ rs)
unfolding steps_of
one-more before r rs p rest =
    let below = rest.below r (last-push None before r) in
    let push = count-push before r in
    record {
      falls = Falls-append (run_steps r) (steps_of rs) (run-falls-or-single r.value r.fall (natural r.count) (level before r p)) rest.falls
          (run-between before r (λ (x : ℤ). All (λ y. y ≤ℤ x) (steps_of rs)) p (λ z low high. All-weaker (λ (y : ℤ). y ≤ℤ last_step_of_run r) (λ (y : ℤ). y ≤ℤ z) (λ y h. omega (arith, ints, h, low)) (steps_of rs) below));
      below = λ q is. let after = not-less (last_step_of_run q) r.value (rw is at p.after) in
          All-append (λ (y : ℤ). y ≤ℤ last_step_of_run q) (run_steps r) (steps_of rs)
          (run-between before r (λ (y : ℤ). y ≤ℤ last_step_of_run q) p (λ z low high. omega (arith, ints, high, after)))
          (All-weaker (λ (y : ℤ). y ≤ℤ last_step_of_run r) (λ (y : ℤ). y ≤ℤ last_step_of_run q) (λ y h. omega (arith, ints, h, after, least before r p)) (steps_of rs) below);
      in_range = All-append InRange (run_steps r) (steps_of rs)
          (run-between before r InRange p (λ z low high. (omega (arith, ints, p.last.0, low), omega (arith, ints, p.first.1, high)))) rest.in_range;
      counted = All-cons (λ (q : Run). pos 1 ≤ℤ q.count) r rs p.counted rest.counted;
      few = λ h. let q = rw push at (rest.few (rw push p.few)) in omega (arith, ints, q);
    }
  where
    level : (before : List Run) (r : Run) → Passed before r → (natural r.count ≤ 1) ⊎ (pos 0 ≤ℤ r.fall)
    level before r p = elim p.level [ inl single ↦ inl (omega (arith, ints, natural-of r.count p.counted, single)) | inr low ↦ inr low ]

    least : (before : List Run) (r : Run) → Passed before r → last_step_of_run r ≤ℤ r.value
    least before r p = let b = step-between before r 0 p (omega (arith, ints, natural-of r.count p.counted, p.counted)) in omega (arith, ints, b.0, b.1)

pub all-fall : (before runs : List Run) → first_of (checks_from run_checks before runs) ≡ None → Fall before runs
unfolding steps_of checks_from Falls
all-fall before [] e = record {
  falls = tt;
  below = λ q is. All-nil (λ (y : ℤ). y ≤ℤ last_step_of_run q);
  in_range = All-nil InRange;
  counted = All-nil (λ (r : Run). pos 1 ≤ℤ r.count);
  few = λ h. omega (arith, ints, h);
}
all-fall before (r ∷ rs) e =
    let none = both-none (is_out_of_range before r) (rises before r) (Range (length before + 1)) (NotConcave (length before + 1)) (checks_from run_checks (before ++ r ∷ []) rs) e in
    one-more before r rs (passed-by before r none.0 none.1) (all-fall (before ++ r ∷ []) rs none.2)

pub steps-length : (runs : List Run) → All (λ r. pos 1 ≤ℤ r.count) runs → pos (length (steps_of runs)) ≡ int_sum (map (λ q. q.count) runs)
unfolding steps_of
steps-length [] h = refl
steps-length (r ∷ rs) h =
    let counted : Run → Type 0 = λ q. pos 1 ≤ℤ q.count in
    let rest = steps-length rs (All-tail counted r rs h) in
    let first = natural-of r.count (All-head counted r rs h) in
    rw (length-append (run_steps r) (steps_of rs), run-length r) (omega (arith, ints, rest, first))

pub accepted-steps : (runs : List Run) → step_fault runs ≡ None → AreSteps (steps_of runs) × All (λ r. pos 1 ≤ℤ r.count) runs
unfolding step_fault
accepted-steps runs e =
    let f = all-fall [] runs e in
    (record { falling = falling (steps_of runs) f.falls; in_range = f.in_range; few = rw (steps-length runs f.counted) (omega (arith, ints, f.few (omega (arith, ints)))) }, f.counted)
