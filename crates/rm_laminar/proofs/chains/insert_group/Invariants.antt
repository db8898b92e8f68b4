use Rattle.std.proofs.Common.{length, take, ◌+◌}
use Rattle.rm_market.specs.Tree.{put, tree_sets}
use Rattle.rm_laminar.specs.Chains.{chain_lists, AreChanged, is_larger}
use Rattle.rm_laminar.proofs.chains.insert_group.Given as goal

abbrev pub invariant-loop-i : goal.invariant-loop-i
invariant-loop-i l = AreChanged (put (is_larger (length l.group) (tree_sets (length l.fn.chains) (chain_lists l.earlier))) (length l.fn.chains + length l.earlier)) l.fn.chains l.chains (take l.i l.group)
