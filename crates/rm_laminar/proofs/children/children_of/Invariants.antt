use Rattle.std.proofs.Common.{length, take, [], ◌-◌}
use Rattle.rm_market.specs.Tree.{tree_sets}
use Rattle.rm_laminar.specs.Chains.{chain_lists}
use Rattle.rm_laminar.proofs.ChildLemmas.{AreListed}
use Rattle.rm_laminar.proofs.children.children_of.Given as goal

abbrev pub invariant-loop-h : goal.invariant-loop-h
invariant-loop-h l = AreListed (tree_sets (length l.chains) (chain_lists l.groups)) l.h [] l.children

abbrev pub invariant-loop-i : goal.invariant-loop-i
invariant-loop-i l = AreListed (tree_sets (length l.chains) (chain_lists l.groups)) l.h (take (l.i - 1) l.chain) l.children
