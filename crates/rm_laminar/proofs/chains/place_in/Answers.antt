use Rattle.std.proofs.Common.{get_or, length, sym, arith}
use Rattle.std.proofs.lemmas.Bool.{lt-ltb}
use Rattle.std.proofs.lemmas.List.Sums.{position_or_len_is}
use Rattle.rm_market.specs.Tree.{tree_sets, set_of}
use Rattle.rm_laminar.specs.Chains.{chain_lists, is_larger}
use Rattle.rm_laminar.proofs.chains.place_in.Goals as goal

pub returns-then-size_of-size-clause-place : goal.returns-then-size_of-size-clause-place
returns-then-size_of-size-clause-place c =
    let size = rw c.size_of.ensures at c.if-size_of-size.true in
    sym (position_or_len_is (is_larger c.args.size (tree_sets c.args.hospitals (chain_lists c.args.groups.now)) c.args.hospitals) c.args.chain.now c.loop-i.i 0 (omega arith) c.loop-i.invariant (λ _. lt-ltb c.args.size (length (set_of (tree_sets c.args.hospitals (chain_lists c.args.groups.now)) (get_or c.args.chain.now c.loop-i.i 0))) size))

pub returns-clause-place : goal.returns-clause-place
returns-clause-place c =
    sym (position_or_len_is (is_larger c.args.size (tree_sets c.args.hospitals (chain_lists c.args.groups.now)) c.args.hospitals) c.args.chain.now (length c.args.chain.now) 0 (omega arith) (λ k lt. c.loop-i.invariant k (omega arith)) (λ lt. absurd (omega arith)))
