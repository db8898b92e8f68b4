use Rattle.std.proofs.Common.{◌≡◌, pos, get_or, FitsSigned, w64, Some, refl, sym, arith, rules}
use Rattle.std.proofs.lemmas.Int.{to_z-of_z}
use Rattle.rm_market.specs.Steps.{steps_of}
use Rattle.rm_market.specs.declared.Run.{Run}
use Rattle.rm_steps.specs.Runs.{step_at, AreKept}
use Rattle.rm_steps.proofs.Places.{none-left, one-left, past-left, kept-count, step-here}
use Rattle.rm_steps.proofs.Falls.{wider}
use Rattle.rm_steps.proofs.Steps.step.Goals as goal

abbrev no_run : Run
no_run = record { value = pos 0; fall = pos 0; count = pos 0 }

pub loop-run-init : goal.loop-run-init
loop-run-init c = none-left c.deref-run-items.result.now c.args.k (λ e. search rules)

pub count_of-count-requires : goal.count_of-count-requires
count_of-count-requires c =
    let kept : AreKept c.deref-run-items.result.now c.self.inside.cap = rw c.deref-run-items.ensures.value c.self.invariant in
    kept-count c.deref-run-items.result.now c.self.inside.cap c.loop-run.run-index (get_or c.deref-run-items.result.now c.loop-run.run-index no_run) no_run kept c.loop-run-test.true refl

found : (c : goal.After-step_after-step) → (step_at (steps_of c.deref-run-items.result.now) c.args.k ≡ Some c.step_after-step.result) × FitsSigned w64 c.step_after-step.result
found c =
    let kept : AreKept c.deref-run-items.result.now c.self.inside.cap = rw c.deref-run-items.ensures.value c.self.invariant in
    step-here c.deref-run-items.result.now c.self.inside.cap c.args.k c.loop-run.run-index c.loop-run.left (get_or c.deref-run-items.result.now c.loop-run.run-index no_run) no_run c.step_after-step.result
    kept c.loop-run.invariant c.loop-run-test.true refl (omega (arith, c.count_of-count.ensures.count)) (omega arith) c.step_after-step.ensures

pub overflow_cast-result : goal.overflow_cast-result
overflow_cast-result c =
    let narrow : FitsSigned w64 c.step_after-step.result = (found c).1 in
    let wide = wider c.step_after-step.result narrow in
    simp to_z-of_z narrow

pub returns-then-left-count : goal.returns-then-left-count
returns-then-left-count c =
    let narrow : FitsSigned w64 c.step_after-step.result = (found c).1 in
    let wide = wider c.step_after-step.result narrow in
    simp to_z-of_z (sym (rw (← c.self.view_is, ← c.deref-run-items.ensures.value) (found c).0))

pub loop-run-preserved : goal.loop-run-preserved
loop-run-preserved c =
    rw c.count_of-count.ensures.count
    (one-left c.deref-run-items.result.now c.args.k c.loop-run.run-index c.loop-run.left (get_or c.deref-run-items.result.now c.loop-run.run-index no_run) no_run c.loop-run.invariant c.loop-run-test.true refl (omega (arith, c.count_of-count.ensures.count)))

pub returns : goal.returns
returns c = sym (rw (← c.self.view_is, ← c.deref-run-items.ensures.value) (past-left c.deref-run-items.result.now c.args.k c.loop-run.run-index c.loop-run.left c.loop-run.invariant (omega arith)))
