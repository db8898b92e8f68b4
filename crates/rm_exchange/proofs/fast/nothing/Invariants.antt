use Rattle.std.proofs.Common.{◌≡◌, None, map, take, replicate}
use Rattle.rm_exchange.proofs.fast.nothing.Given as goal

abbrev pub invariant-loop-i : goal.invariant-loop-i
invariant-loop-i l = l.rivals.items ≡ map (λ width. replicate width None) (take l.i l.widths)
