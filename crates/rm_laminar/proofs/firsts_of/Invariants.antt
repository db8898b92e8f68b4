use Rattle.std.proofs.Common.{◌≡◌, ◌++◌, map, take}
use Rattle.std.specs.Prelude.{slice_index}
use Rattle.rm_market.specs.Tree.{below}
use Rattle.rm_laminar.specs.Chains.{chain_lists}
use Rattle.rm_laminar.proofs.firsts_of.Given as goal

abbrev pub invariant-loop-h : goal.invariant-loop-h
invariant-loop-h l = l.firsts.items ≡ below l.h

abbrev pub invariant-loop-g : goal.invariant-loop-g
invariant-loop-g l = l.firsts.items ≡ below l.hospitals ++ map (λ g. slice_index g 0) (chain_lists (take l.g l.groups))
