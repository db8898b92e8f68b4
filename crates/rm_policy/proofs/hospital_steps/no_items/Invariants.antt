use Rattle.std.proofs.Common.{◌≡◌, replicate, None}
use Rattle.rm_policy.proofs.hospital_steps.no_items.Given as goal

abbrev pub invariant-loop-h : goal.invariant-loop-h
invariant-loop-h l = l.items.items ≡ replicate l.h None
