use Rattle.std.proofs.Common.{◌≡◌, ◌+◌, ◌-◌, ◌≤◌, length, arith, rules}
use Rattle.rm_outside.proofs.GainLemmas.{gains-more}
use Rattle.rm_top.proofs.Pieces.{gains-part}
use Rattle.rm_top.proofs.output.put_text.Goals as goal

pub returns-in-Err-clause-part : goal.returns-in-Err-clause-part
returns-in-Err-clause-part g c =
    let text = c.args.text.now in
    let start = c.loop-start.start in
    let end = c.if-text-start-lt-PIECE.end in
    let up : start ≤ end = search rules in
    let within : end ≤ length text = search rules in
    gains-part _ _ _ text start end up within c.loop-start.invariant.1 c.in-Err.ensures.part

pub loop-start-preserved : goal.loop-start-preserved
loop-start-preserved g c =
    let text = c.args.text.now in
    let start = c.loop-start.start in
    let end = c.if-text-start-lt-PIECE.end in
    let up : start ≤ end = search rules in
    let within : end ≤ length text = search rules in
    let meet : start + (end - start) ≡ end = omega (arith, up) in
    (within, rw meet at (gains-more _ _ _ text start (end - start) c.loop-start.invariant.1 c.in-Ok.ensures.ok), omega (arith, c.loop-start.invariant.2, c.in-Ok.ensures.later))
