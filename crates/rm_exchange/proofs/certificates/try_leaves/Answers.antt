use Rattle.std.proofs.Common.{None, IfSome, ◌<◌, subst, ◌∙◌}
use Rattle.rm_market.specs.Board.{contract_count}
use Rattle.rm_exchange.specs.RowsBelow.{IsLastAt}
use Rattle.rm_exchange.proofs.Rows.{all_nothing_more}
use Rattle.rm_exchange.proofs.certificates.try_leaves.Goals as goal

pub loop-leaf-preserved-in_default : goal.loop-leaf-preserved-in_default
loop-leaf-preserved-in_default c =
    let inv = c.loop-leaf.invariant in
    let leaf = c.loop-leaf.leaf in
    record {
      nodes = inv.nodes;
      long = inv.long;
      outs = inv.outs;
      rows = λ S ch a lasts r.
          let so_far = inv.rows S ch a lasts r in (
            so_far.0,
            all_nothing_more c.args.board.now S c.args.offered.now leaf c.loop-leaf.rows
                (subst (IsLastAt c.args.board.now S leaf) c.in_default.is (lasts.each leaf None c.loop-leaf-test.true)) so_far.1,
          );
    }

pub try_swaps-requires-clause-place : goal.try_swaps-requires-clause-place
try_swaps-requires-clause-place c = subst (λ o. IfSome o (λ z. z < contract_count c.args.board.now)) c.in-Some.is (c.requires.lasts c.loop-leaf.leaf None c.loop-leaf-test.true)

pub loop-leaf-preserved : goal.loop-leaf-preserved
loop-leaf-preserved c =
    let inv = c.loop-leaf.invariant in
    let leaf = c.loop-leaf.leaf in
    record {
      nodes = c.try_swaps.ensures.nodes ∙ inv.nodes;
      long = c.try_swaps.ensures.long ∙ inv.long;
      outs = c.try_swaps.ensures.outs;
      rows = λ S ch a lasts r.
          let so_far = inv.rows S ch a lasts r in
          let last = subst (IsLastAt c.args.board.now S leaf) c.in-Some.is (lasts.each leaf None c.loop-leaf-test.true) in (
            c.try_swaps.ensures.counts S ch last.0 so_far.0,
            c.try_swaps.ensures.rows S leaf ch so_far.0 last so_far.1,
          );
    }
