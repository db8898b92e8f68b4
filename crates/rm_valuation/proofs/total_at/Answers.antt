use Rattle.std.proofs.Common.{get_or, pos, ◌-ℤ◌, ◌≤ℤ◌, FitsSigned, arith}
use Rattle.std.specs.Prelude.{◌^◌}
use Rattle.std.specs.Int.{w128}
use Rattle.std.proofs.lemmas.Int.{ints, to_z-of_z}
use Rattle.rm_valuation.proofs.Sums.{total_in_range}
use Rattle.rm_valuation.proofs.total_at.Goals as goal

pub returns-clause-low : goal.returns-clause-low
returns-clause-low c =
    let r = total_in_range c.steps-steps.result.now (get_or c.args.counts.now c.args.node 0) c.cap-cap.ensures.steps in
    let low : (pos 0 -ℤ pos (2 ^ 60)) ≤ℤ c.total.result = rw c.total.ensures r.0 in
    let high : c.total.result ≤ℤ pos (2 ^ 60) = rw c.total.ensures r.1 in
    let fits : FitsSigned w128 c.total.result = omega (arith, ints, low, high) in
    simp to_z-of_z low

pub returns-clause-high : goal.returns-clause-high
returns-clause-high c =
    let r = total_in_range c.steps-steps.result.now (get_or c.args.counts.now c.args.node 0) c.cap-cap.ensures.steps in
    let low : (pos 0 -ℤ pos (2 ^ 60)) ≤ℤ c.total.result = rw c.total.ensures r.0 in
    let high : c.total.result ≤ℤ pos (2 ^ 60) = rw c.total.ensures r.1 in
    let fits : FitsSigned w128 c.total.result = omega (arith, ints, low, high) in
    simp to_z-of_z high
