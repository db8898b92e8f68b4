use Rattle.std.proofs.Common.{◌≡◌, length, get_or, None, ap, subst, arith, ◌∙◌}
use Rattle.std.specs.Prelude.{find}
use Rattle.std.proofs.lemmas.List.{take_all}
use Rattle.rm_sets.proofs.Members.{IsIn-get_or}
use Rattle.rm_market.specs.Tree.{sets_of_tree}
use Rattle.rm_valuation.proofs.Chains.{chain_is}
use Rattle.rm_valuation.proofs.Counted.{count_of}
use Rattle.rm_valuation.proofs.Taken.{none_more, some_here}
use Rattle.rm_exchange.proofs.Rows.{is_full, innermost_is, full_test, unfull_test}
use Rattle.rm_exchange.proofs.certificates.innermost_full.Goals as goal

pub bounds-counts-node : goal.bounds-counts-node
bounds-counts-node c =
    let b = c.args.board.now in
    let chain = chain_is b c.args.x c.leaf.result (sets_of_tree c.tree.result.now) c.chain-chain.result.now c.tree.ensures.sets c.leaf.ensures.leaf c.chain-chain.ensures in
    let lt = chain.nodes (get_or c.chain-chain.result.now c.loop-i.i 0) (IsIn-get_or c.chain-chain.result.now c.loop-i.i 0 c.loop-i-test.true) in
    let same = c.requires.nodes in
    omega (arith, lt, same)

pub steps-requires : goal.steps-requires
steps-requires c =
    let b = c.args.board.now in
    let chain = chain_is b c.args.x c.leaf.result (sets_of_tree c.tree.result.now) c.chain-chain.result.now c.tree.ensures.sets c.leaf.ensures.leaf c.chain-chain.ensures in
    chain.nodes (get_or c.chain-chain.result.now c.loop-i.i 0) (IsIn-get_or c.chain-chain.result.now c.loop-i.i 0 c.loop-i-test.true)

pub returns-then-counts-node : goal.returns-then-counts-node
returns-then-counts-node c = λ S a.
    let b = c.args.board.now in
    let nodes = c.chain-chain.result.now in
    let k = get_or nodes c.loop-i.i 0 in
    let chain = chain_is b c.args.x c.leaf.result (sets_of_tree c.tree.result.now) nodes c.tree.ensures.sets c.leaf.ensures.leaf c.chain-chain.ensures in
    let count = count_of b S c.args.counts.now a k (chain.nodes k (IsIn-get_or nodes c.loop-i.i 0 c.loop-i-test.true)) in
    innermost_is b S c.args.x c.leaf.result (sets_of_tree c.tree.result.now) nodes _ c.tree.ensures.sets c.leaf.ensures.leaf c.chain-chain.ensures
    (some_here (is_full b S) c.loop-i.i nodes c.loop-i-test.true (c.loop-i.invariant S a) (full_test b S k _ _ count (c.cap.ensures.cap ∙ ap length c.steps.ensures) c.if-counts-node.true))

pub loop-i-preserved : goal.loop-i-preserved
loop-i-preserved c = λ S a.
    let b = c.args.board.now in
    let nodes = c.chain-chain.result.now in
    let k = get_or nodes c.loop-i.i 0 in
    let chain = chain_is b c.args.x c.leaf.result (sets_of_tree c.tree.result.now) nodes c.tree.ensures.sets c.leaf.ensures.leaf c.chain-chain.ensures in
    let count = count_of b S c.args.counts.now a k (chain.nodes k (IsIn-get_or nodes c.loop-i.i 0 c.loop-i-test.true)) in
    none_more (is_full b S) c.loop-i.i nodes c.loop-i-test.true (c.loop-i.invariant S a) (unfull_test b S k _ _ count (c.cap.ensures.cap ∙ ap length c.steps.ensures) c.if-counts-node.false)

pub returns : goal.returns
returns c = λ S a.
    let nodes = c.chain-chain.result.now in
    innermost_is c.args.board.now S c.args.x c.leaf.result (sets_of_tree c.tree.result.now) nodes None c.tree.ensures.sets c.leaf.ensures.leaf c.chain-chain.ensures
    (subst (λ L. find (is_full c.args.board.now S) L ≡ None) (take_all c.loop-i.i nodes c.loop-i-test.false) (c.loop-i.invariant S a))
