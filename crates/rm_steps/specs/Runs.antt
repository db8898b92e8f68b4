-- What the calls on runs of steps answer.
use Rattle.std.specs.Prelude.{◌+◌, ◌≡◌, ℕ, zero, suc, ℤ, pos, ◌≤ℤ◌, List, length, Option, Some, None, Result, Ok, Err, All, slice_get}
use Rattle.rm_market.specs.Steps.{steps_of, AreSteps}
use Rattle.rm_market.specs.declared.Run.{Run}
use Rattle.rm_market.specs.declared.StepFault.{StepFault}
use Rattle.rm_market.specs.declared.StepFault.TheVariants.{NoMemory}

-- the answer to runs with this first fault, whose steps are these
abbrev pub Accepts : Option StepFault → List ℤ → Result (List ℤ) StepFault → Type 0
Accepts first steps (Ok told) = (first ≡ None) × (told ≡ steps)
Accepts first steps (Err NoMemory) = Unit {0}
Accepts first steps (Err fault) = first ≡ Some fault

abbrev pub Passes : Option StepFault → Result (Unit {0}) StepFault → Type 0
Passes first (Ok _) = first ≡ None
Passes first (Err fault) = first ≡ Some fault

-- the k-th step, counted from 1
abbrev pub step_at : List ℤ → ℕ → Option ℤ
step_at steps zero = None
step_at steps (suc k) = slice_get steps k

-- the sum of the numbers below n
unfoldable pub sum_below : ℕ → ℕ
sum_below zero = 0
sum_below (suc n) = sum_below n + n

-- the runs and the cap that are kept: each run has a step
pub record AreKept (runs : List Run) (cap : ℕ) : Type 0 where
  pub counted : All (λ r. pos 1 ≤ℤ r.count) runs
  pub steps : AreSteps (steps_of runs)
  pub cap_is : cap ≡ length (steps_of runs)
