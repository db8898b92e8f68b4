-- Sums of the first steps.
use Rattle.std.proofs.Common.{◌≡◌, ◌∙◌, ◌+◌, ◌-◌, ◌*◌, ◌/◌, ◌^◌, ◌<◌, ◌≤◌, ◌⊎◌, inl, inr, ℕ, zero, suc, ℤ, pos, negsuc, ◌+ℤ◌, ◌-ℤ◌, ◌*ℤ◌, ◌≤ℤ◌, true, List, [], ◌∷◌, ◌++◌, length, take, drop, get_or, min, refl, ap, arith}
use Rattle.std.proofs.lemmas.Int.{ints}
use Rattle.std.proofs.lemmas.List.{map-append, drop_all, take_all, take-append-le, append-nil}
use Rattle.std.proofs.Math.Seq.{take-append-add}
use lib.IntN.{one}
use Rattle.std.proofs.Math.IntN.{negsuc-*ℤ-pos, *ℤ-zero, *ℤ-one}
use Rattle.std.proofs.Math.Nat.{mul-add}
use Rattle.std.specs.List.{take-map}
use Rattle.rm_sets.specs.Sets.{all_below}
use Rattle.rm_market.specs.Board.{int_sum, total}
use Rattle.rm_market.specs.Steps.{natural, run_steps, steps_of}
use Rattle.rm_market.specs.declared.Run.{Run}
use Rattle.rm_steps.specs.Runs.{sum_below}
use Rattle.rm_steps.proofs.Falling.{steps_below, length-below}
use Rattle.rm_steps.proofs.Accepted.{run-length, sum-append}
use Rattle.rm_steps.proofs.Places.{steps-at}

-- ---- the sum of the numbers below n

twice-below : (n : ℕ) → 2 * sum_below (suc n) ≡ suc n * n
unfolding sum_below
twice-below zero = refl
twice-below (suc n) = twice (sum_below (suc n)) n (twice-below n)
  where
    twice : (s n : ℕ) → 2 * s ≡ suc n * n → 2 * (s + suc n) ≡ suc (suc n) * suc n
    twice s n h = grind arith

pub half-is : (n : ℕ) → ¬ (n ≡ 0) → n * (n - 1) / 2 ≡ sum_below n
half-is zero some = absurd (some refl)
half-is (suc n) some =
    let less : suc n - 1 ≡ n = omega arith in
    rw less (omega (arith, twice-below n))

-- ---- the first steps of a run

first-below : (n m : ℕ) → n ≤ m → take n (all_below m (λ k. true)) ≡ all_below n (λ k. true)
first-below n zero le =
    let none : n ≡ 0 = omega arith in
    rw none refl
first-below n (suc m) le =
    elim (at_most n m le) [
      | inl less ↦ take-append-le n (all_below m (λ k. true)) (m ∷ []) (rw length-below less) ∙ first-below n m less
      | inr all ↦ rw all (take_all (suc m) (all_below (suc m) (λ k. true)) (rw length-below (omega arith)))
    ]
  where
    at_most : (n m : ℕ) → n ≤ suc m → (n ≤ m) ⊎ (n ≡ suc m)
    at_most n m le = grind arith

times-add : (f : ℤ) (a b : ℕ) → f *ℤ pos (a + b) ≡ (f *ℤ pos a) +ℤ (f *ℤ pos b)
times-add (pos n) a b = ap pos (mul-add n a b)
times-add (negsuc n) a b = omega (arith, ints, negsuc-*ℤ-pos n (a + b), negsuc-*ℤ-pos n a, negsuc-*ℤ-pos n b, mul-add (suc n) a b)

sum-steps : (v f : ℤ) (n : ℕ) → int_sum (steps_below v f n) ≡ (v *ℤ pos n) -ℤ (f *ℤ pos (sum_below n))
unfolding sum_below one
sum-steps v f zero = rw (*ℤ-zero v, *ℤ-zero f) refl
sum-steps v f (suc n) =
    let once : v *ℤ pos 1 ≡ v = *ℤ-one v in
    let next : suc n ≡ n + 1 = omega arith in
    rw (map-append (λ (k : ℕ). v -ℤ (f *ℤ pos k)) (all_below n (λ k. true)) (n ∷ []), sum-append (steps_below v f n) ((v -ℤ (f *ℤ pos n)) ∷ []), sum-steps v f n, times-add f (sum_below n) n, next, times-add v n 1, once)
    (omega (arith, ints))

pub first-steps : (r : Run) (n : ℕ) → n ≤ natural r.count → int_sum (take n (run_steps r)) ≡ (r.value *ℤ pos n) -ℤ (r.fall *ℤ pos (sum_below n))
first-steps r n le =
    rw (take-map (λ (k : ℕ). r.value -ℤ (r.fall *ℤ pos k)) n (all_below (natural r.count) (λ k. true)), first-below n (natural r.count) le) (sum-steps r.value r.fall n)

-- ---- the first steps of runs in a row

take-parts : (xs ys : List ℤ) (k : ℕ) → take k (xs ++ ys) ≡ take (min k (length xs)) xs ++ take (k - min k (length xs)) ys
take-parts xs ys k = elim (at_most k (length xs)) [
  | inl le ↦
      let all : min k (length xs) ≡ k = omega arith in
      let none : k - k ≡ 0 = omega arith in
      rw (all, none, append-nil (take k xs)) (take-append-le k xs ys le)
  | inr more ↦
      let whole : min k (length xs) ≡ length xs = omega arith in
      let parts : k ≡ length xs + (k - length xs) = omega arith in
      rw (whole, take_all (length xs) xs (omega arith)) (ap (λ (j : ℕ). take j (xs ++ ys)) parts ∙ take-append-add xs ys (k - length xs))
]
  where
    at_most : (k n : ℕ) → (k ≤ n) ⊎ (n < k)
    at_most k n = grind arith

-- the runs before run i have this sum of the first k steps, and the rest has so many of them left
pub record IsSummed (runs : List Run) (k i left : ℕ) (sum : ℤ) : Type 0 where
  pub same : total (steps_of runs) k ≡ sum +ℤ total (steps_of (drop i runs)) left
  pub low : (pos 0 -ℤ pos (i * 2 ^ 104)) ≤ℤ sum
  pub high : sum ≤ℤ pos (i * 2 ^ 104)

pub none-summed : (runs : List Run) (k : ℕ) → IsSummed runs k 0 k (pos 0)
none-summed runs k = record { same = omega (arith, ints); low = omega (arith, ints); high = omega (arith, ints) }

pub one-summed : (runs : List Run) (k i left : ℕ) (sum part : ℤ) (r d : Run) → IsSummed runs k i left sum → i < length runs → r ≡ get_or runs i d
    → part ≡ int_sum (take (min left (natural r.count)) (run_steps r)) → (pos 0 -ℤ pos (2 ^ 104)) ≤ℤ part → part ≤ℤ pos (2 ^ 104)
    → IsSummed runs k (i + 1) (left - min left (natural r.count)) (sum +ℤ part)
one-summed runs k i left sum part r d s lt at is low high =
    let n = run-length r in
    let rest : List ℤ = steps_of (drop (i + 1) runs) in
    let parts : total (steps_of (drop i runs)) left ≡ part +ℤ total rest (left - min left (natural r.count)) =
    rw (steps-at runs i r d lt at, take-parts (run_steps r) rest left, n, sum-append (take (min left (natural r.count)) (run_steps r)) (take (left - min left (natural r.count)) rest), is) refl
    in
    record {
      same = s.same ∙ rw parts (omega (arith, ints));
      low = omega (arith, ints, s.low, low);
      high = omega (arith, ints, s.high, high);
    }

no-steps : (left : ℕ) → total [] left ≡ pos 0
no-steps zero = refl
no-steps (suc n) = refl

pub all-summed : (runs : List Run) (k i left : ℕ) (sum : ℤ) → IsSummed runs k i left sum → length runs ≤ i → total (steps_of runs) k ≡ sum
unfolding steps_of
all-summed runs k i left sum s le = s.same ∙ rw (drop_all i runs le, no-steps left) (omega (arith, ints))
