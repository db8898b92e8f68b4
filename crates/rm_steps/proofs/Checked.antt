-- Runs that are checked one after another.
use Rattle.std.proofs.Common.{◌≡◌, ◌∙◌, ◌+◌, ◌<◌, ◌≤◌, ℕ, pos, ◌≤ℤ◌, List, [], ◌∷◌, ◌++◌, length, map, take, get_or, Some, None, refl, sym, ap, arith}
use Rattle.std.proofs.lemmas.Int.{ints}
use Rattle.std.proofs.lemmas.List.{take_more, take_all}
use Rattle.rm_base.specs.Checks.{first_of}
use Rattle.rm_base.proofs.CheckLemmas.{AreThrough, through-start, through-more, through-stop, through-end}
use Rattle.rm_market.specs.Board.{int_sum}
use Rattle.rm_market.specs.Steps.{natural, run_checks, step_fault, is_out_of_range, rises}
use Rattle.rm_market.specs.declared.Run.{Run}
use Rattle.rm_market.specs.declared.StepFault.{StepFault}
use Rattle.rm_market.specs.declared.StepFault.TheVariants.{Range, NotConcave}
use Rattle.rm_steps.specs.Runs.{AreKept}
use Rattle.rm_steps.proofs.Accepted.{Passed, both-none, passed-by, count-push, accepted-steps, steps-length, natural-of}

-- the runs before run i pass, and have so many steps
pub record AreChecked (runs : List Run) (i held : ℕ) : Type 0 where
  pub through : AreThrough run_checks runs 0 i (take i runs)
  pub held_is : int_sum (map (λ q. q.count) (take i runs)) ≡ pos held
  pub few : held ≤ 1000000
  pub number : i ≤ held

pub none-checked : (runs : List Run) → AreChecked runs 0 0
none-checked runs = record { through = through-start run_checks runs 0; held_is = refl; few = omega arith; number = omega arith }

pub passed-one : (before : List Run) (r : Run) → first_of (run_checks before r) ≡ None → Passed before r
passed-one before r e =
    let none = both-none (is_out_of_range before r) (rises before r) (Range (length before + 1)) (NotConcave (length before + 1)) [] e in
    passed-by before r none.0 none.1

pub passed-count : (runs : List Run) (i held : ℕ) (r : Run) → AreChecked runs i held → first_of (run_checks (take i runs) r) ≡ None → (pos 1 ≤ℤ r.count) × (r.count ≤ℤ pos 1000000) × (held + natural r.count ≤ 1000000)
passed-count runs i held r a e =
    let p = passed-one (take i runs) r e in
    let few = rw a.held_is at p.few in
    (p.counted, omega (arith, ints, few), omega (arith, ints, few, natural-of r.count p.counted))

pub one-checked : (runs : List Run) (i held : ℕ) (r d : Run) → AreChecked runs i held → i < length runs → r ≡ get_or runs i d → first_of (run_checks (take i runs) r) ≡ None → AreChecked runs (i + 1) (held + natural r.count)
one-checked runs i held r d a lt at e =
    let p = passed-one (take i runs) r e in
    let n = natural-of r.count p.counted in
    let next : take (i + 1) runs ≡ take i runs ++ r ∷ [] = take_more runs i d lt ∙ ap (λ (q : Run). take i runs ++ q ∷ []) (sym at) in
    let counts = passed-count runs i held r a e in
    record {
      through = rw next (through-more run_checks runs 0 i (take i runs) r d a.through lt at e);
      held_is = rw (next, count-push (take i runs) r, a.held_is) (omega (arith, ints, n));
      few = counts.2;
      number = omega (arith, ints, n, p.counted, a.number);
    }

pub one-stops : (runs : List Run) (i held : ℕ) (r d : Run) (f : StepFault) → AreChecked runs i held → i < length runs → r ≡ get_or runs i d → first_of (run_checks (take i runs) r) ≡ Some f → step_fault runs ≡ Some f
unfolding step_fault
one-stops runs i held r d f a lt at e = through-stop run_checks runs 0 i (take i runs) r d f a.through lt at e

pub all-checked : (runs : List Run) (i held : ℕ) → AreChecked runs i held → length runs ≤ i → (step_fault runs ≡ None) × AreKept runs held
unfolding step_fault
all-checked runs i held a le =
    let none = through-end run_checks runs 0 i (take i runs) a.through le in
    let good = accepted-steps runs none.0 in
    let held_is = rw (take_all i runs le) at a.held_is in
    (none.0, record { counted = good.1; steps = good.0; cap_is = omega (arith, ints, held_is, steps-length runs good.1) })
