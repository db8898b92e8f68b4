use Rattle.std.proofs.Common.{◌≡◌, ◌<◌, ℕ, get_or, false}
use Rattle.rm_market.specs.Tree.{tree_sets}
use Rattle.rm_laminar.specs.Chains.{chain_lists, is_larger}
use Rattle.rm_laminar.proofs.chains.place_in.Given as goal

abbrev pub invariant-loop-i : goal.invariant-loop-i
invariant-loop-i l = (k : ℕ) → k < l.i → is_larger l.size (tree_sets l.hospitals (chain_lists l.groups)) l.hospitals (get_or l.chain k 0) ≡ false
