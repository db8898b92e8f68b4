use Rattle.std.proofs.Common.{◌≡◌, get_or, subst, ◌∙◌}
use Rattle.rm_market.specs.Board.{contract_count}
use Rattle.rm_flexible_laws.specs.Region.{region_at}
use Rattle.rm_flexible.proofs.Front.{flexible_kept}
use Rattle.rm_flexible.proofs.Together.{left_first}
use Rattle.rm_flexible.proofs.choosing.choose.Goals as goal

pub count_offers-requires-clause-none : goal.count_offers-requires-clause-none
count_offers-requires-clause-none c = λ x i.
    let p = c.requires.lawful.all x (c.requires.set.below x i) in
    let q = p.2 in
    subst (λ h. get_or c.clear_all.new.counts h 0 ≡ 0) q.hospital (c.clear_all.ensures.none p.0 p.1 q.region q.seat)

pub returns-clause-chosen : goal.returns-clause-chosen
returns-clause-chosen c =
    let b = c.args.board.now in
    let regions = c.args.regions.now in
    let X = c.args.offered.now in
    c.write_kept.ensures.written
    ∙ flexible_kept b (contract_count b) regions X c.take_all.new.counts c.count_offers.new.marks c.requires.lawful c.requires.set c.count_offers.ensures.marks
    (c.take_all.ensures.kept b X c.requires.lawful c.requires.set
    (λ i li. left_first b (region_at regions i) X c.clear_all.new.counts c.count_offers.new.counts (λ j lj. c.clear_all.ensures.none i j li lj) c.count_offers.ensures.counts))
