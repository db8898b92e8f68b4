use Rattle.std.proofs.Common.{◌≡◌, ◌≤◌, ◌*◌, ◌^◌}
use Rattle.rm_drill.specs.Files.{sum_in}
use Rattle.rm_drill.proofs.files.whole_sum.Given as goal

abbrev pub invariant-loop-h : goal.invariant-loop-h
invariant-loop-h l = (l.total ≡ sum_in l.values l.q l.h) × (l.total ≤ l.h * 2 ^ 32)
