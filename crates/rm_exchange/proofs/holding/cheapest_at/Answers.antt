use Rattle.std.proofs.Common.{◌∙◌, arith}
use Rattle.rm_exchange.proofs.Chain.{kept_leaf, kept_best, read_best}
use Rattle.rm_exchange.proofs.holding.cheapest_at.Goals as goal

pub returns-then-node-len : goal.returns-then-node-len
returns-then-node-len c =
    let b = c.args.board.now in
    let h = c.args.holding.now in
    let k = c.requires.kept.1 in
    let lt = c.if-node-len.true in
    let long = c.len.ensures ∙ c.args.holding.now.leaves.ok.0 in
    let all = k.leaves.all in
    kept_leaf b c.requires.kept.0 h c.args.node c.index.result.now c.last_removal.result k (omega arith) c.index.ensures c.last_removal.ensures

pub returns : goal.returns
returns c =
    let k = c.requires.kept.1 in
    let past = c.if-node-len.false in
    let long = c.len.ensures ∙ c.args.holding.now.leaves.ok.0 in
    let leaves = k.leaves.all in
    let all = k.all_nodes in
    let lt = c.requires.node in
    kept_best c.args.board.now c.requires.kept.0 c.args.holding.now c.args.node c.best.result k (omega arith) (omega arith)
    (read_best c.args.holding.now.rivals.items c.args.node c.index-2.result.now c.best.result c.index-2.ensures (omega arith) c.best.ensures)
