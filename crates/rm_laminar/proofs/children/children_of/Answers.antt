use Rattle.std.proofs.Common.{◌∙◌, ◌-◌, [], get_or, length, sym, arith}
use Rattle.rm_market.specs.Tree.{tree_sets}
use Rattle.rm_laminar.specs.Chains.{chain_lists}
use Rattle.rm_laminar.proofs.ListOfLists.{lists-length}
use Rattle.rm_laminar.proofs.Trees.{tree-length}
use Rattle.rm_laminar.proofs.Firsts.{least-there}
use Rattle.rm_laminar.proofs.ChildLemmas.{none-listed, pushed-at, skipped-at, chain-listed, all-listed, node-at}
use Rattle.rm_laminar.proofs.children.children_of.Goals.{then-firsts-node+in_ok-push, else-firsts-node}
use Rattle.rm_laminar.proofs.children.children_of.Goals as goal

pub loop-h-init : goal.loop-h-init
loop-h-init c =
    let count = tree-length (length c.args.chains.now) (chain_lists c.args.groups.now) in
    let groups = lists-length c.args.groups.now in
    none-listed (tree_sets (length c.args.chains.now) (chain_lists c.args.groups.now)) c.in_ok-children.children (rw (count, groups) (rw c.len.ensures at c.in_ok-children.ensures))

pub list-chain-requires : goal.list-chain-requires
list-chain-requires c = rw c.len-h-end.ensures at c.loop-h-test.true

pub loop-i-init : goal.loop-i-init
loop-i-init c = c.loop-h.invariant

pub bounds-firsts-node : goal.bounds-firsts-node
bounds-firsts-node c =
    let h = rw c.len-h-end.ensures at c.loop-h-test.true in
    let chain = c.requires.chains.chains c.loop-h.h h in
    let lt = rw c.list-chain.ensures at c.loop-i-test.true in
    let node = node-at (tree_sets (length c.args.chains.now) (chain_lists c.args.groups.now)) c.loop-h.h (c.loop-i.i - 1) (get_or c.args.chains.now c.loop-h.h []) chain (omega (arith, lt)) in
    let count = tree-length (length c.args.chains.now) (chain_lists c.args.groups.now) in
    let groups = lists-length c.args.groups.now in
    rw c.list-chain.ensures (omega (arith, node, count, groups, c.requires.nodes))

pub push-requires : goal.push-requires
push-requires c =
    let h = rw c.len-h-end.ensures at c.loop-h-test.true in
    let chain = c.requires.chains.chains c.loop-h.h h in
    let lt = rw c.list-chain.ensures at c.loop-i-test.true in
    let node = node-at (tree_sets (length c.args.chains.now) (chain_lists c.args.groups.now)) c.loop-h.h c.loop-i.i (get_or c.args.chains.now c.loop-h.h []) chain lt in
    rw (c.list-chain.ensures, c.loop-i.invariant.lengths) node

pub loop-i-preserved : goal.loop-i-preserved
loop-i-preserved c =
    let h = rw c.len-h-end.ensures at c.loop-h-test.true in
    let chain = c.requires.chains.chains c.loop-h.h h in
    let lt = rw c.list-chain.ensures at c.loop-i-test.true in
    let node = node-at (tree_sets (length c.args.chains.now) (chain_lists c.args.groups.now)) c.loop-h.h (c.loop-i.i - 1) (get_or c.args.chains.now c.loop-h.h []) chain (omega (arith, lt)) in
    let count = tree-length (length c.args.chains.now) (chain_lists c.args.groups.now) in
    let groups = lists-length c.args.groups.now in
    let first = c.requires.firsts (get_or (get_or c.args.chains.now c.loop-h.h []) (c.loop-i.i - 1) 0) (omega (arith, node, count, groups, c.requires.nodes)) in
    let so_far = rw c.list-chain.ensures at c.loop-i.invariant in
    elim c.if-firsts-node.branch [
      | then-firsts-node+in_ok-push w ↦ rw (w.children-is, c.list-chain.ensures) (pushed-at (tree_sets (length c.args.chains.now) (chain_lists c.args.groups.now)) c.loop-i.children w.push.new.self c.loop-h.h (c.loop-i.i - 1) c.loop-i.i (get_or c.args.chains.now c.loop-h.h [])
          c.requires.chains.laminar chain (omega arith) lt (sym first ∙ rw c.list-chain.ensures at w.if-firsts-node.true) so_far (rw c.list-chain.ensures at w.in_ok-push.ensures))
      | else-firsts-node w ↦ rw (w.children-is, c.list-chain.ensures) (skipped-at (tree_sets (length c.args.chains.now) (chain_lists c.args.groups.now)) c.loop-i.children c.loop-h.h (c.loop-i.i - 1) c.loop-i.i (get_or c.args.chains.now c.loop-h.h [])
          c.requires.chains.laminar chain (omega arith) lt (λ e. let other = rw c.list-chain.ensures at w.if-firsts-node.false in other (first ∙ e)) so_far)
    ]

pub loop-h-preserved : goal.loop-h-preserved
loop-h-preserved c =
    let h = rw c.len-h-end.ensures at c.loop-h-test.true in
    let chain = c.requires.chains.chains c.loop-h.h h in
    let end = rw c.list-chain.ensures at c.loop-i-test.false in
    let so_far = rw c.list-chain.ensures at c.loop-i.invariant in
    chain-listed (tree_sets (length c.args.chains.now) (chain_lists c.args.groups.now)) c.loop-i.children c.loop-h.h (c.loop-i.i - 1) (get_or c.args.chains.now c.loop-h.h [])
    c.requires.chains.laminar (λ k lt. (least-there (length c.args.chains.now) (chain_lists c.args.groups.now) c.args.chains.now k c.requires.groups c.requires.chains lt).0) chain (omega (arith, end)) so_far

pub returns : goal.returns
returns c =
    let end = rw c.len-h-end.ensures at c.loop-h-test.false in
    all-listed (record { hospitals = length c.args.chains.now; groups = chain_lists c.args.groups.now }) c.loop-h.children c.loop-h.h c.requires.chains.laminar
    (λ k lt. (least-there (length c.args.chains.now) (chain_lists c.args.groups.now) c.args.chains.now k c.requires.groups c.requires.chains lt).0)
    (λ k lt. let below = (least-there (length c.args.chains.now) (chain_lists c.args.groups.now) c.args.chains.now k c.requires.groups c.requires.chains lt).1 in omega (arith, below, end)) c.loop-h.invariant
