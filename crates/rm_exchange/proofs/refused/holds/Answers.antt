use Rattle.std.proofs.Common.{◌∙◌}
use Rattle.std.proofs.lemmas.List.Sorted.{searched}
use Rattle.rm_valuation.proofs.Taken.{found_is, rising}
use Rattle.rm_exchange.proofs.refused.holds.Goals as goal

pub returns : goal.returns
returns c =
    c.is_ok.ensures.value
    ∙ found_is c.args.set.now c.args.x c.binary_search.result c.requires (searched c.args.set.now c.args.x c.binary_search.result c.binary_search.ensures.position (rising c.args.set.now c.requires))
