use Rattle.std.proofs.Common.{◌≡◌, length, take, sum_by}
use Rattle.rm_report.proofs.check.listed_count.Given as goal

abbrev pub invariant-loop-d : goal.invariant-loop-d
invariant-loop-d l = l.count ≡ sum_by length (take l.d l.listed)
