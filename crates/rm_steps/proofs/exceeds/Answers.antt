use Rattle.std.proofs.Common.{ℤ, FitsSigned, w64, rules, ap}
use lib.Signed.{lt_z}
use Rattle.std.specs.Int.{w128}
use Rattle.std.proofs.lemmas.Int.{to_z-of_z}
use Rattle.rm_steps.proofs.Falls.{wider}
use Rattle.rm_steps.proofs.LastRun.{last-is}
use Rattle.rm_steps.proofs.exceeds.Goals as goal

pub returns-in-Some : goal.returns-in-Some
returns-in-Some c =
    let last = last-is c.args.before.now c.in-Some.former.now c.in-Some.ensures.value in
    let v : FitsSigned w64 c.args.run.now.value = search rules in
    let wide_v = wider c.args.run.now.value v in
    let r : FitsSigned w128 c.last_step.result = search rules in
    rw last (simp to_z-of_z (ap (λ (z : ℤ). lt_z z c.args.run.now.value) c.last_step.ensures))
