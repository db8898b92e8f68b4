-- The caps and the steps of entries.
use Rattle.std.specs.Prelude.{ℕ, nat_lt, List, [], ◌∷◌, length, filter_map, replicate, ℤ, pos, Option, option_map, unwrap_or}
use Rattle.toml.specs.Data.{Data}
use Rattle.rm_base.specs.Checks.{check}
use Rattle.rm_base.specs.declared.Refusal.{Refusal}
use Rattle.rm_base.specs.declared.codes.TheConstants.{STEPS_RISE, STEP_OUT_OF_RANGE, TOO_MANY_ITEMS, MOST_RUNS, RUNS_LIMIT}
use Rattle.rm_market.specs.Steps.{step_fault}
use Rattle.rm_market.specs.declared.Run.{Run}
use Rattle.rm_market.specs.declared.StepFault.{StepFault}
use Rattle.rm_market.specs.declared.StepFault.TheVariants as faults
use Rattle.rm_policy.specs.Values.{cap, run_written, runs}
use Rattle.rm_policy.specs.Entries.{policy_refusal, read_at, elements_at}
use Rattle.rm_policy.specs.declared.keys.Key.TheVariants as key

abbrev pub cap_in : Data → ℕ
cap_in e = unwrap_or (read_at cap key.Cap e) 0

-- steps of 0, as many as the cap
abbrev pub flat : ℕ → List ℤ
flat n = replicate n (pos 0)

-- the runs that an array holds
abbrev pub runs_of : List Data → List Run
runs_of ds = filter_map run_written ds

abbrev pub runs_in : Data → List Run
runs_in e = runs_of (elements_at runs key.Steps e)

abbrev pub run_refusal : ℕ → StepFault → Refusal
run_refusal i (faults.Range r) = policy_refusal STEP_OUT_OF_RANGE i r
run_refusal i (faults.NotConcave r) = policy_refusal STEPS_RISE i r
run_refusal i faults.NoMemory = policy_refusal STEP_OUT_OF_RANGE i 0

-- at most so many runs, and then the runs in order: a step or count out of range, or steps that rise
abbrev pub step_checks : ℕ → List Run → List (Option Refusal)
step_checks i rs =
    check (nat_lt MOST_RUNS (length rs)) (policy_refusal TOO_MANY_ITEMS i RUNS_LIMIT)
    ∷ option_map (run_refusal i) (step_fault rs)
    ∷ []
