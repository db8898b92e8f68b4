use Rattle.std.proofs.Common.{◌≤◌, length, drop, arith, length-drop}
use Rattle.std.proofs.lemmas.List.{take_rest}
use Rattle.rm_outside.proofs.GainLemmas.{gains-more}
use Rattle.rm_outside.proofs.stream.write_whole.Goals as goal

pub loop-preserved-in-Ok : goal.loop-preserved-in-Ok
loop-preserved-in-Ok g c =
    let piece = c.args.piece.now in
    let done = c.loop.done in
    let few : c.in-Ok.n ≤ length (drop done piece) = rw (take_rest piece done) at c.in-Ok.ensures.bound in
    (omega (arith, c.loop.invariant.0, few, length-drop done piece), gains-more _ _ _ piece done c.in-Ok.n c.loop.invariant.1 (rw (take_rest piece done) at c.in-Ok.ensures.bytes))
