use Rattle.std.proofs.Common.{w64, arith, IfSome, ◌<◌, ◌∙◌}
use Rattle.std.proofs.lemmas.Int.{to_z-of_z}
use Rattle.std.proofs.lemmas.List.{length-set}
use Rattle.std.proofs.lemmas.List.Elements.{All-set}
use Rattle.rm_market.specs.Board.{contract_count}
use Rattle.rm_exchange.proofs.Changes.{fits_i64, put_back}
use Rattle.rm_exchange.proofs.Rows.{kept_next, swap_next}
use Rattle.rm_exchange.proofs.certificates.try_swaps.Goals as goal

pub loop-i-preserved-then-row : goal.loop-i-preserved-then-row
loop-i-preserved-then-row c =
    let inv = c.loop-i.invariant in
    record {
      long = inv.long;
      outs = inv.outs;
      each = λ S leaf t last r. kept_next c.args.board.now S leaf c.args.offered.now c.loop-i.i c.loop-i.rows _ c.loop-i-test.true inv.long (inv.each S leaf t last r) c.if-row.true;
    }

pub loop-i-preserved : goal.loop-i-preserved
loop-i-preserved c =
    let inv = c.loop-i.invariant in
    record {
      long = length-set c.loop-i.rows c.loop-i.i _ ∙ inv.long;
      outs = All-set (λ q. IfSome q.swap (λ swap. swap.out < contract_count c.args.board.now)) c.loop-i.rows c.loop-i.i _ c.better_swap.ensures.out inv.outs;
      each = λ S leaf t last r. swap_next c.args.board.now S leaf c.args.offered.now c.loop-i.i c.loop-i.rows _ c.better_swap.result c.loop-i-test.true inv.long (inv.each S leaf t last r) c.if-row.false
          (λ out below. c.better_swap.ensures.swap S leaf t last out below);
    }

pub returns-clause-counts : goal.returns-clause-counts
returns-clause-counts c = λ S ch i a.
    put_back c.args.board.now S c.args.z c.take_out-loss.new.counts c.count_in.new.counts c.take_out-loss.result (c.take_out-loss.ensures.taken S ch i a) c.count_in.ensures.counts

pub returns-clause-rows : goal.returns-clause-rows
returns-clause-rows c = λ S leaf ch a last r.
    let loss = c.take_out-loss.result in
    let each = rw (to_z-of_z w64 loss (fits_i64 loss c.take_out-loss.ensures.low c.take_out-loss.ensures.high)) at c.loop-i.invariant.each in
    let rows = each S leaf (c.take_out-loss.ensures.taken S ch last.0 a) last r in
    record { long = c.loop-i.invariant.long; each = λ k d lt. rows.0 k d (let past = c.loop-i-test.false in omega (arith, lt, past)) }
