use Rattle.std.proofs.Common.{sym, ◌∙◌}
use Rattle.rm_sets.proofs.Members.{IsIn-get_or}
use Rattle.rm_top.proofs.Offered.{next_is_new, one_more}
use Rattle.rm_top.proofs.choosing.offer_all.Goals as goal

pub offer-requires-clause-contract : goal.offer-requires-clause-contract
offer-requires-clause-contract g c = rw c.loop-i.invariant.count (c.requires.offered.below _ (IsIn-get_or c.args.offered.now c.loop-i.i 0 c.loop-i-test.true))

pub offer-requires-clause-new : goal.offer-requires-clause-new
offer-requires-clause-new g c =
    let h = c.args.holder.now in
    rw c.loop-i.invariant.held
    (next_is_new (g.H.Holder.count h) (g.H.Holder.chosen h) c.loop-i.i c.args.offered.now (g.met.H.Holder.lawful h) c.requires.offered c.loop-i-test.true)

pub loop-i-preserved : goal.loop-i-preserved
loop-i-preserved g c =
    let h = c.args.holder.now in
    record {
      held =
          rw (c.offer.ensures.held, c.loop-i.invariant.chosen, c.loop-i.invariant.held)
          (sym (one_more (g.H.Holder.count h) (g.H.Holder.chosen h) c.loop-i.i c.args.offered.now (g.met.H.Holder.lawful h) c.requires.offered c.loop-i-test.true));
      chosen = c.offer.ensures.chosen ∙ c.loop-i.invariant.chosen;
      count = c.offer.ensures.count ∙ c.loop-i.invariant.count;
    }
