use Rattle.std.proofs.Common.{length, take, ◌-◌, ◌≤◌}
use Rattle.rm_outside.specs.Outside.{Gains}
use Rattle.rm_top.proofs.output.put_text.Given as goal

abbrev pub invariant-loop-start : goal.invariant-loop-start
invariant-loop-start g l =
    (l.start ≤ length l.text) × Gains (g.O.Sink.written l.initial.out) (g.O.Sink.written l.out) (take l.start l.text)
    × (g.O.Sink.faults l.initial.out ≤ g.O.Sink.faults l.out)

abbrev pub decreases-loop-start : goal.decreases-loop-start
decreases-loop-start g l = length l.text - l.start
