use Rattle.rm_market.specs.Market.{set_of_places}
use Rattle.rm_case.specs.Case.{market}
use Rattle.rm_top.proofs.Judged.{finding_within, places_below}
use Rattle.rm_top.proofs.auditing.finding_told.Goals as goal

pub finding_text-requires : goal.finding_text-requires
finding_text-requires c =
    let m = market c.args.case.now in
    let places = c.args.places.now in
    finding_within m (set_of_places m places) c.in_ok-finding.finding (places_below m places) c.in_ok-finding.ensures.finding
