use Rattle.std.proofs.Common.{FitsSigned, w64, rules, refl}
use Rattle.std.specs.Int.{w128}
use Rattle.std.proofs.lemmas.Int.{to_z-of_z}
use Rattle.rm_steps.proofs.Falls.{fits-product, fits-step, wider}
use Rattle.rm_steps.proofs.step_after.Goals as goal

pub overflow_sub-result : goal.overflow_sub-result
overflow_sub-result c =
    let v : FitsSigned w64 c.args.run.now.value = search rules in
    let f : FitsSigned w64 c.args.run.now.fall = search rules in
    let wide_v = wider c.args.run.now.value v in
    let wide_f = wider c.args.run.now.fall f in
    let k : FitsSigned w128 c.args.k = c.ranges.k in
    let p = fits-product c.args.run.now.fall c.args.k f c.requires.low c.requires.high in
    simp to_z-of_z (fits-step c.args.run.now.value c.args.run.now.fall c.args.k v f c.requires.low c.requires.high)

pub returns : goal.returns
returns c =
    let v : FitsSigned w64 c.args.run.now.value = search rules in
    let f : FitsSigned w64 c.args.run.now.fall = search rules in
    let wide_v = wider c.args.run.now.value v in
    let wide_f = wider c.args.run.now.fall f in
    let k : FitsSigned w128 c.args.k = c.ranges.k in
    let p = fits-product c.args.run.now.fall c.args.k f c.requires.low c.requires.high in
    let s = fits-step c.args.run.now.value c.args.run.now.fall c.args.k v f c.requires.low c.requires.high in
    simp to_z-of_z refl
