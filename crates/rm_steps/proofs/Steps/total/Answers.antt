use Rattle.std.proofs.Common.{◌≡◌, ◌+ℤ◌, pos, get_or, FitsSigned, min, refl, sym, arith, rules}
use Rattle.std.proofs.lemmas.Int.{ints, to_z-of_z}
use Rattle.std.specs.Int.{w128}
use mir.Val.{to_z}
use Rattle.rm_market.specs.Steps.{natural}
use Rattle.rm_market.specs.declared.Run.{Run}
use Rattle.rm_steps.specs.Runs.{AreKept}
use Rattle.rm_steps.proofs.Places.{kept-count, kept-runs}
use Rattle.rm_steps.proofs.Sums.{none-summed, one-summed, all-summed}
use Rattle.rm_steps.proofs.Steps.total.Goals as goal

abbrev no_run : Run
no_run = record { value = pos 0; fall = pos 0; count = pos 0 }

pub loop-run-init : goal.loop-run-init
loop-run-init c = none-summed c.deref-run-items.result.now c.args.k

pub count_of-requires : goal.count_of-requires
count_of-requires c =
    let kept : AreKept c.deref-run-items.result.now c.self.inside.cap = rw c.deref-run-items.ensures.value c.self.invariant in
    kept-count c.deref-run-items.result.now c.self.inside.cap c.loop-run.run-index (get_or c.deref-run-items.result.now c.loop-run.run-index no_run) no_run kept c.loop-run-test.true refl

pub overflow_add-sum : goal.overflow_add-sum
overflow_add-sum c =
    let kept : AreKept c.deref-run-items.result.now c.self.inside.cap = rw c.deref-run-items.ensures.value c.self.invariant in
    let few = kept-runs c.deref-run-items.result.now c.self.inside.cap kept in
    omega (arith, ints, few, c.loop-run.invariant.low, c.loop-run.invariant.high, c.first_sum-sum.ensures.low, c.first_sum-sum.ensures.high, c.loop-run-test.true)

pub loop-run-preserved : goal.loop-run-preserved
loop-run-preserved c =
    let kept : AreKept c.deref-run-items.result.now c.self.inside.cap = rw c.deref-run-items.ensures.value c.self.invariant in
    let few = kept-runs c.deref-run-items.result.now c.self.inside.cap kept in
    let part : FitsSigned w128 c.first_sum-sum.result = search rules in
    let sum : FitsSigned w128 (to_z w128 c.loop-run.sum-bits +ℤ c.first_sum-sum.result) =
    omega (arith, ints, few, c.loop-run.invariant.low, c.loop-run.invariant.high, c.first_sum-sum.ensures.low, c.first_sum-sum.ensures.high, c.loop-run-test.true)
    in
    let taken : c.min-taken.result ≡ min c.loop-run.left (natural (get_or c.deref-run-items.result.now c.loop-run.run-index no_run).count) = rw (← c.count_of.ensures.count) c.min-taken.ensures in
    let is = rw taken at c.first_sum-sum.ensures.sum in
    simp to_z-of_z (rw taken (one-summed c.deref-run-items.result.now c.args.k c.loop-run.run-index c.loop-run.left (to_z w128 c.loop-run.sum-bits) c.first_sum-sum.result
    (get_or c.deref-run-items.result.now c.loop-run.run-index no_run) no_run c.loop-run.invariant c.loop-run-test.true refl is c.first_sum-sum.ensures.low c.first_sum-sum.ensures.high))

pub returns : goal.returns
returns c = sym (rw (← c.self.view_is, ← c.deref-run-items.ensures.value) (all-summed c.deref-run-items.result.now c.args.k c.loop-run.run-index c.loop-run.left (to_z w128 c.loop-run.sum-bits) c.loop-run.invariant (omega arith)))
