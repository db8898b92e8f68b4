use Rattle.rm_drill.proofs.Hospital.{capacity-more, target-more, two-more}
use Rattle.rm_drill.proofs.hospitals.draw_seats.Goals as goal

pub loop-k-preserved : goal.loop-k-preserved
loop-k-preserved c =
    let first = rw c.loop-k.invariant.0 at c.below-capacity.ensures.state in
    let one = rw c.loop-k.invariant.0 at c.below-capacity.ensures.drawn in (
      two-more c.args.seed c.loop-k.k _ (rw first at c.below-target.ensures.state),
      capacity-more c.args.seed c.loop-k.k c.below-capacity.result _ _ c.loop-k.invariant.1 one c.in_ok-push.ensures.items,
      target-more c.args.seed c.loop-k.k c.below-capacity.result c.below-target.result _ _ c.loop-k.invariant.2 one (rw first at c.below-target.ensures.drawn) c.in_ok-push-2.ensures.items,
    )
