-- Steps, their sums, and sums up to a place of a list, with how great they are.
use Rattle.std.proofs.Common.{◌≡◌, ℕ, zero, suc, ◌+◌, ◌-◌, ◌*◌, ◌≤◌, List, [], ◌∷◌, length, get_or, max, ℤ, pos, ◌+ℤ◌, ◌-ℤ◌, ◌≤ℤ◌, All, refl, ⊎_elim, arith, add-one}
use Rattle.std.specs.Prelude.{◌^◌}
use Rattle.std.specs.Option.{unwrap_or}
use Rattle.std.proofs.lemmas.Int.{ints}
use Rattle.std.proofs.lemmas.Bool.{cases_lt}
use Rattle.std.proofs.lemmas.List.{get_or_past}
use Rattle.std.proofs.lemmas.List.Elements.{All-head, All-tail, All-get_or}
use Rattle.std.proofs.lemmas.Option.{unwrap_or-slice_get}
use Rattle.rm_market.specs.Board.{total}
use Rattle.rm_market.specs.Steps.{AreSteps}
use Rattle.rm_steps.specs.Runs.{step_at}
use Rattle.rm_valuation_laws.specs.Changes.{sum_upto}

-- ---- how great steps and their sums are

abbrev pub InRange : ℤ → Type 0
InRange z = ((pos 0 -ℤ pos 1000000000) ≤ℤ z) × (z ≤ℤ pos 1000000000)

in_range : (steps : List ℤ) → AreSteps steps → All InRange steps
in_range steps s = s.in_range

pub few_steps : (steps : List ℤ) → AreSteps steps → length steps ≤ 1000000
few_steps steps s = let few : pos (length steps) ≤ℤ pos 1000000 = s.few in omega (arith, ints)

pub step_in_range : (steps : List ℤ) (k : ℕ) → AreSteps steps → InRange (get_or steps k (pos 0))
step_in_range steps k s =
    ⊎_elim
    (λ lt. All-get_or InRange steps k (pos 0) lt (in_range steps s))
    (λ past. let e = get_or_past steps k (pos 0) past in (omega (arith, ints), omega (arith, ints)))
    (cases_lt k (length steps))

abbrev SumInRange : ℕ → ℤ → Type 0
SumInRange n z = ((pos 0 -ℤ pos (n * 1000000000)) ≤ℤ z) × (z ≤ℤ pos (n * 1000000000))

total_in : (steps : List ℤ) (k : ℕ) → All InRange steps → SumInRange (length steps) (total steps k)
total_in [] zero all = (omega (arith, ints), omega (arith, ints))
total_in [] (suc k) all = (omega (arith, ints), omega (arith, ints))
total_in (z ∷ zs) zero all = (omega (arith, ints), omega (arith, ints))
total_in (z ∷ zs) (suc k) all =
    let here = All-head InRange z zs all in
    let rest = total_in zs k (All-tail InRange z zs all) in
    (omega (arith, ints, here.0, rest.0), omega (arith, ints, here.1, rest.1))

pub total_in_range : (steps : List ℤ) (k : ℕ) → AreSteps steps → ((pos 0 -ℤ pos (2 ^ 60)) ≤ℤ total steps k) × (total steps k ≤ℤ pos (2 ^ 60))
total_in_range steps k s =
    let few = few_steps steps s in
    let t = total_in steps k (in_range steps s) in
    (omega (arith, ints, few, t.0), omega (arith, ints, few, t.1))

-- ---- the last step

pub last_step_is : (steps : List ℤ) (c k : ℕ) → k ≡ max c 1 → unwrap_or (step_at steps k) (pos 0) ≡ get_or steps (c - 1) (pos 0)
last_step_is steps c k e =
    let same : k ≡ suc (c - 1) = omega arith in
    rw same (unwrap_or-slice_get steps (c - 1) (pos 0))

-- ---- sums up to a place

pub record IsSummed (g : ℕ → ℤ) (i : ℕ) (sum : ℤ) : Type 0 where
  pub same : sum ≡ sum_upto i g
  pub low : (pos 0 -ℤ pos (i * 1000000000)) ≤ℤ sum
  pub high : sum ≤ℤ pos (i * 1000000000)

pub none_summed : (g : ℕ → ℤ) → IsSummed g 0 (pos 0)
none_summed g = record { same = refl; low = omega (arith, ints); high = omega (arith, ints) }

pub one_summed : (g : ℕ → ℤ) (i : ℕ) (sum part : ℤ) → IsSummed g i sum → part ≡ g i → InRange part → IsSummed g (i + 1) (sum +ℤ part)
one_summed g i sum part s e r = rw (add-one i) (record {
  same = let same = s.same in omega (arith, ints);
  low = let low = s.low in let here = r.0 in omega (arith, ints);
  high = let high = s.high in let here = r.1 in omega (arith, ints);
})

-- with greater parts
pub record IsTotal (g : ℕ → ℤ) (i : ℕ) (sum : ℤ) : Type 0 where
  pub same : sum ≡ sum_upto i g
  pub low : (pos 0 -ℤ pos (i * 2 ^ 60)) ≤ℤ sum
  pub high : sum ≤ℤ pos (i * 2 ^ 60)

pub one_total : (g : ℕ → ℤ) (i : ℕ) (sum part : ℤ) → IsTotal g i sum → part ≡ g i → (pos 0 -ℤ pos (2 ^ 60)) ≤ℤ part → part ≤ℤ pos (2 ^ 60) → IsTotal g (i + 1) (sum +ℤ part)
one_total g i sum part s e l h = rw (add-one i) (record {
  same = let same = s.same in omega (arith, ints);
  low = let low = s.low in omega (arith, ints);
  high = let high = s.high in omega (arith, ints);
})
