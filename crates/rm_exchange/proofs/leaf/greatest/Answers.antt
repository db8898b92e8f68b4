use Rattle.std.proofs.Common.{◌<◌, refl, subst}
use Rattle.std.specs.BinaryHeap.{heap_items}
use Rattle.rm_exchange.proofs.Greatest.{top_greatest}
use Rattle.rm_exchange.proofs.leaf.greatest.Goals as goal

pub returns : goal.returns
returns c =
    let held = c.args.held.now in
    top_greatest (heap_items held) c.in-Some.x.now (subst (λ n. 0 < n) held.data.ok.0 (c.in-Some.ensures.variant.0 refl)) c.in-Some.ensures.lookup (c.in-Some.ensures.greatest c.requires)
