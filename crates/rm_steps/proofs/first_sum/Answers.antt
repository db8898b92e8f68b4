use Rattle.std.proofs.Common.{◌-ℤ◌, FitsSigned, w64, refl, arith, rules}
use Rattle.std.proofs.lemmas.Int.{ints, to_z-of_z}
use Rattle.std.specs.Int.{w128}
use Rattle.rm_steps.proofs.Sums.{first-steps}
use Rattle.rm_steps.proofs.first_sum.Goals as goal

pub returns-clause-sum : goal.returns-clause-sum
returns-clause-sum c =
    let first = first-steps c.args.run.now c.args.n c.requires.within in
    let v : FitsSigned w128 c.times.result = search rules in
    let f : FitsSigned w128 c.times-2.result = search rules in
    let difference : FitsSigned w128 (c.times.result -ℤ c.times-2.result) = omega (arith, ints, c.times.ensures, c.times-2.ensures) in
    let value : FitsSigned w64 c.args.run.now.value = search rules in
    let fall : FitsSigned w64 c.args.run.now.fall = search rules in
    simp to_z-of_z (rw (first, c.times.ensures.product, c.times-2.ensures.product, c.sum_below.ensures.sum) (simp to_z-of_z refl))
