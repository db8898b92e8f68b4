use Rattle.std.proofs.Common.{◌≡◌, ◌∙◌, ◌+◌, ap, subst, sym, length, get_or, replicate, rules, arith}
use Rattle.std.proofs.lemmas.List.{length-replicate}
use Rattle.rm_market.specs.Tree.{sets_of_tree}
use Rattle.rm_exchange.specs.Holding.{ArePlacedSo}
use Rattle.rm_exchange.proofs.Placing.{none_placed, entered, entered_node}
use Rattle.rm_exchange.proofs.Opening.{own_nodes, nodes_of, few_widths, zeros}
use Rattle.rm_exchange.proofs.places.all_places.Goals as goal

pub loop-node-init : goal.loop-node-init
loop-node-init c =
    let n = (nodes_of c.args.board.now c.tree-tree.result.now c.nodes-nodes.result c.tree-tree.ensures.hospitals c.tree-tree.ensures.sets c.nodes-nodes.ensures).1 in
    let zero : c.in_ok-widths.widths.items ≡ replicate c.nodes-nodes.result 0 = search rules in
    record {
      wide = ap length zero ∙ (length-replicate c.nodes-nodes.result 0 ∙ n);
      placed = subst (λ p. ArePlacedSo c.args.board.now 0 c.in_ok-widths.widths.items p) (sym c.in_ok-places.ensures.items)
          (none_placed c.args.board.now c.in_ok-widths.widths.items (λ a. ap (λ w. get_or w a 0) zero ∙ zeros c.nodes-nodes.result a));
    }

pub enter_if_any-place-requires : goal.enter_if_any-place-requires
enter_if_any-place-requires c =
    let lt = c.loop-node-test.true in
    let end = c.nodes-nodes.type_inv in
    let t = entered_node c.args.board.now c.loop-node.node (sets_of_tree c.tree-tree.result.now) c.parent.result c.loop-node.widths.items c.tree-tree.ensures.sets c.loop-node.invariant.wide (omega arith) c.parent.ensures c.loop-node.invariant.placed.few in
    record { node = t.1; few = t.2 }

pub loop-node-preserved : goal.loop-node-preserved
loop-node-preserved c =
    let lt = c.loop-node-test.true in
    let end = c.nodes-nodes.type_inv in
    let k = c.loop-node.node in
    let t = entered_node c.args.board.now k (sets_of_tree c.tree-tree.result.now) c.parent.result c.loop-node.widths.items c.tree-tree.ensures.sets c.loop-node.invariant.wide (omega arith) c.parent.ensures c.loop-node.invariant.placed.few in
    let next = entered c.args.board.now k c.parent.result c.loop-node.widths.items c.enter_if_any-place.new.widths.items c.loop-node.places.items c.enter_if_any-place.result t.0 t.1 c.enter_if_any-place.ensures c.loop-node.invariant.placed in
    record {
      wide = next.1 ∙ c.loop-node.invariant.wide;
      placed = subst (λ p. ArePlacedSo c.args.board.now (k + 1) c.enter_if_any-place.new.widths.items p) (sym c.in_ok-push.ensures.items) next.0;
    }

pub returns-clause-own : goal.returns-clause-own
returns-clause-own c = own_nodes c.args.board.now c.tree-tree.result.now c.tree-tree.ensures.hospitals c.tree-tree.ensures.sets

pub returns-clause-hospitals : goal.returns-clause-hospitals
returns-clause-hospitals c = (nodes_of c.args.board.now c.tree-tree.result.now c.nodes-nodes.result c.tree-tree.ensures.hospitals c.tree-tree.ensures.sets c.nodes-nodes.ensures).0

pub returns-clause-placed : goal.returns-clause-placed
returns-clause-placed c =
    let past = c.loop-node-test.false in
    let end = c.loop-node.auto.node-end in
    let n = (nodes_of c.args.board.now c.tree-tree.result.now c.nodes-nodes.result c.tree-tree.ensures.hospitals c.tree-tree.ensures.sets c.nodes-nodes.ensures).1 in
    let e : c.loop-node.node ≡ length c.args.board.now.nodes = omega arith in
    subst (λ j. ArePlacedSo c.args.board.now j c.loop-node.widths.items c.loop-node.places.items) e c.loop-node.invariant.placed

pub returns-clause-few : goal.returns-clause-few
returns-clause-few c =
    let past = c.loop-node-test.false in
    let end = c.loop-node.auto.node-end in
    let m = c.nodes-nodes.type_inv in
    let n = (nodes_of c.args.board.now c.tree-tree.result.now c.nodes-nodes.result c.tree-tree.ensures.hospitals c.tree-tree.ensures.sets c.nodes-nodes.ensures).1 in
    let e : c.loop-node.node ≡ length c.args.board.now.nodes = omega arith in
    few_widths c.args.board.now c.nodes-nodes.result c.loop-node.widths.items c.loop-node.places.items n (omega arith) (subst (λ j. ArePlacedSo c.args.board.now j c.loop-node.widths.items c.loop-node.places.items) e c.loop-node.invariant.placed)
