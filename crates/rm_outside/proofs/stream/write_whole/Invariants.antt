use Rattle.std.proofs.Common.{length, take, ◌≤◌}
use Rattle.rm_outside.specs.Outside.{Gains}
use Rattle.rm_outside.proofs.stream.write_whole.Given as goal

abbrev pub invariant-loop : goal.invariant-loop
invariant-loop g l = (l.done ≤ length l.piece) × Gains (g.W.Write.contents l.initial.writer) (g.W.Write.contents l.writer) (take l.done l.piece)
