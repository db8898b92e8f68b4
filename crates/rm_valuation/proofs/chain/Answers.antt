use Rattle.std.proofs.Common.{◌≤◌, length, arith, subst, sym}
use Rattle.rm_market.specs.Tree.{sets_of_tree}
use Rattle.rm_valuation.proofs.Chains.{chain_is, chain_length}
use Rattle.rm_valuation.proofs.chain.Goals as goal

pub prove-unreachable-requires : goal.prove-unreachable-requires
prove-unreachable-requires c =
    let most : length c.chain-chain.result.now ≤ length (sets_of_tree c.tree-tree.result.now) =
    subst (λ ks. length ks ≤ length (sets_of_tree c.tree-tree.result.now)) (sym c.chain-chain.ensures) (chain_length (sets_of_tree c.tree-tree.result.now) c.leaf.result)
    in
    let all = c.nodes-nodes.ensures in
    let more = c.if-prove.true in
    omega arith

pub returns-clause-chain : goal.returns-clause-chain
returns-clause-chain c = chain_is c.args.board.now c.args.x c.leaf.result (sets_of_tree c.tree-tree.result.now) c.chain-chain.result.now c.tree-tree.ensures.sets c.leaf.ensures.leaf c.chain-chain.ensures
