use Rattle.std.proofs.Common.{◌≡◌, length}
use Rattle.rm_exchange.proofs.fast.tests.two_ranked.Given as goal

abbrev pub invariant-loop-h : goal.invariant-loop-h
invariant-loop-h l = (length l.builder.lists ≡ l.hospitals) × (l.builder.items ≡ 2) × (l.builder.limit ≡ 20)
