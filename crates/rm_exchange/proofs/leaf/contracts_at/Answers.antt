use Rattle.std.proofs.Common.{◌∙◌, ◌+◌, ◌<◌, length, set, ap, subst, arith}
use Rattle.std.proofs.lemmas.List.{length-set, get_or_default}
use Rattle.rm_valuation_laws.specs.Changes.{test_at}
use Rattle.rm_exchange.proofs.Opening.{own_nodes}
use Rattle.rm_exchange.proofs.Placing.{one_more}
use Rattle.rm_exchange.proofs.Leaves.{count_few, counted_more}
use Rattle.rm_exchange.proofs.leaf.contracts_at.Goals as goal

pub overflow_add-index_mut : goal.overflow_add-index_mut
overflow_add-index_mut c =
    let few = count_few (test_at c.args.board.now c.leaf.result) c.loop-x.x in
    let is = c.loop-x.invariant.counts c.leaf.result c.leaf.ensures.below in
    let lt = c.loop-x-test.true in
    let end = c.contracts-x-end.type_inv in
    let wide = c.loop-x.invariant.wide in
    let below = c.leaf.ensures.below in
    let v = c.index_mut.ensures.value ∙ get_or_default c.loop-x.counts.items c.leaf.result c.index_mut.result.now 0 (omega arith) in
    omega arith

pub loop-x-preserved : goal.loop-x-preserved
loop-x-preserved c =
    let b = c.args.board.now in
    let counts = c.loop-x.counts.items in
    let leaf = c.leaf.result in
    let wide = c.loop-x.invariant.wide in
    let below = c.leaf.ensures.below in
    let v = c.index_mut.ensures.value ∙ get_or_default counts leaf c.index_mut.result.now 0 (omega arith) in
    record {
      wide = length-set counts leaf (c.index_mut.result.now + 1) ∙ c.loop-x.invariant.wide;
      counts = counted_more b c.loop-x.x leaf counts (set counts leaf (c.index_mut.result.now + 1)) (own_nodes b c.tree.result.now c.tree.ensures.hospitals c.tree.ensures.sets) c.leaf.ensures.leaf c.loop-x.invariant.wide c.leaf.ensures.below
          (ap (λ n. set counts leaf (n + 1)) v) c.loop-x.invariant.counts;
      leaves = one_more b c.loop-x.x (length b.ranks) c.loop-x.invariant.leaves (subst (λ w. w < length b.ranks) c.leaf.ensures.leaf c.leaf.ensures.below);
    }
