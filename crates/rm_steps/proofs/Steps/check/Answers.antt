use Rattle.std.proofs.Common.{◌≡◌, List, ℤ, pos, get_or, Option, Some, Err, refl, ap, arith, rules}
use Rattle.std.proofs.lemmas.Result.{err_from_is_err_and}
use Rattle.rm_market.specs.Steps.{steps_of, step_fault}
use Rattle.rm_market.specs.declared.Run.{Run}
use Rattle.rm_market.specs.declared.StepFault.{StepFault}
use Rattle.rm_market.specs.declared.StepFault.TheVariants.{Range, NotConcave, NoMemory}
use Rattle.std.proofs.lemmas.Int.{ints}
use Rattle.rm_steps.specs.Runs.{Accepts}
use Rattle.rm_steps.proofs.Checked.{none-checked, one-checked, one-stops, all-checked, passed-count}
use Rattle.rm_steps.proofs.Steps.check.Goals as goal

abbrev no_run : Run
no_run = record { value = pos 0; fall = pos 0; count = pos 0 }

pub loop-i-init : goal.loop-i-init
loop-i-init c = none-checked c.args.runs.now

accepts-err : (first : Option StepFault) (steps : List ℤ) (f : StepFault) → first ≡ Some f → Accepts first steps (Err f)
accepts-err first steps (Range r) e = e
accepts-err first steps (NotConcave r) e = e
accepts-err first steps NoMemory e = tt

pub returns-in_err-check_run-clause-answer : goal.returns-in_err-check_run-clause-answer
returns-in_err-check_run-clause-answer c =
    let p = err_from_is_err_and c.from_residual.result c.from_residual.ensures.1 in
    rw (p.1, p.2) (accepts-err (step_fault c.args.runs.now) (steps_of c.args.runs.now) c.in_err-check_run.field-0.0
    (one-stops c.args.runs.now c.loop-i.i c.loop-i.held (get_or c.args.runs.now c.loop-i.i no_run) no_run c.in_err-check_run.field-0.0 c.loop-i.invariant c.loop-i-test.true refl c.in_err-check_run.ensures))

pub count_of-held-requires : goal.count_of-held-requires
count_of-held-requires c =
    let p = passed-count c.args.runs.now c.loop-i.i c.loop-i.held (get_or c.args.runs.now c.loop-i.i no_run) c.loop-i.invariant c.in_ok-check_run.ensures in
    (omega (arith, ints, p.0), p.1)

pub loop-i-preserved : goal.loop-i-preserved
loop-i-preserved c =
    rw c.count_of-held.ensures.count
    (one-checked c.args.runs.now c.loop-i.i c.loop-i.held (get_or c.args.runs.now c.loop-i.i no_run) no_run c.loop-i.invariant c.loop-i-test.true refl c.in_ok-check_run.ensures)

pub invariant_of-result : goal.invariant_of-result
invariant_of-result c =
    let same : c.in-Ok.runs.items ≡ c.args.runs.now = search rules in
    rw same (all-checked c.args.runs.now c.loop-i.i c.loop-i.held c.loop-i.invariant c.loop-i-test.false).1

pub returns-clause-answer : goal.returns-clause-answer
returns-clause-answer c =
    let same : c.in-Ok.runs.items ≡ c.args.runs.now = search rules in
    ((all-checked c.args.runs.now c.loop-i.i c.loop-i.held c.loop-i.invariant c.loop-i-test.false).0, ap steps_of same)

pub returns-clause-steps : goal.returns-clause-steps
returns-clause-steps c =
    let same : c.in-Ok.runs.items ≡ c.args.runs.now = search rules in
    rw same (all-checked c.args.runs.now c.loop-i.i c.loop-i.held c.loop-i.invariant c.loop-i-test.false).1.steps
