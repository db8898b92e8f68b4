use Rattle.std.proofs.Common.{◌≡◌, get_or, length, fold, max, map, []}
use Rattle.rm_market.specs.Tree.{below}
use Rattle.rm_laminar.proofs.depth_of.Given as goal

abbrev pub invariant-loop-h : goal.invariant-loop-h
invariant-loop-h l = l.depth ≡ fold max 0 (map (λ h. length (get_or l.chains h [])) (below l.h))
