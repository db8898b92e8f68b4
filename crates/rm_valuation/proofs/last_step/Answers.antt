use Rattle.std.proofs.Common.{◌≡◌, ◌∙◌, ◌-◌, ap, get_or, pos, FitsSigned, w64, arith}
use Rattle.std.specs.Option.{unwrap_or}
use Rattle.std.proofs.lemmas.Int.{ints, to_z-of_z}
use Rattle.rm_valuation.proofs.Sums.{InRange, last_step_is, step_in_range}
use Rattle.rm_valuation.proofs.last_step.Goals as goal

pub returns-clause-step : goal.returns-clause-step
returns-clause-step c =
    let count = get_or c.args.counts.now c.args.node 0 in
    let is : c.unwrap_or.result ≡ get_or c.steps-steps.result.now (count - 1) (pos 0) =
    c.unwrap_or.ensures ∙ (ap (λ o. unwrap_or o (pos 0)) c.step.ensures ∙ last_step_is c.steps-steps.result.now count c.max.result c.max.ensures)
    in
    let range : InRange c.unwrap_or.result = rw is (step_in_range c.steps-steps.result.now (count - 1) c.cap-cap.ensures.steps) in
    let fits : FitsSigned w64 c.unwrap_or.result = omega (arith, ints, range.0, range.1) in
    simp to_z-of_z (rw (← c.steps-steps.ensures) is)

pub returns-clause-low : goal.returns-clause-low
returns-clause-low c =
    let count = get_or c.args.counts.now c.args.node 0 in
    let is : c.unwrap_or.result ≡ get_or c.steps-steps.result.now (count - 1) (pos 0) =
    c.unwrap_or.ensures ∙ (ap (λ o. unwrap_or o (pos 0)) c.step.ensures ∙ last_step_is c.steps-steps.result.now count c.max.result c.max.ensures)
    in
    let range : InRange c.unwrap_or.result = rw is (step_in_range c.steps-steps.result.now (count - 1) c.cap-cap.ensures.steps) in
    let fits : FitsSigned w64 c.unwrap_or.result = omega (arith, ints, range.0, range.1) in
    simp to_z-of_z range.0

pub returns-clause-high : goal.returns-clause-high
returns-clause-high c =
    let count = get_or c.args.counts.now c.args.node 0 in
    let is : c.unwrap_or.result ≡ get_or c.steps-steps.result.now (count - 1) (pos 0) =
    c.unwrap_or.ensures ∙ (ap (λ o. unwrap_or o (pos 0)) c.step.ensures ∙ last_step_is c.steps-steps.result.now count c.max.result c.max.ensures)
    in
    let range : InRange c.unwrap_or.result = rw is (step_in_range c.steps-steps.result.now (count - 1) c.cap-cap.ensures.steps) in
    let fits : FitsSigned w64 c.unwrap_or.result = omega (arith, ints, range.0, range.1) in
    simp to_z-of_z range.1
