use Rattle.rm_valuation_laws.proofs.Offers.{three_kinds, offer_best}
use Rattle.rm_valuation_laws.proofs.one_offer.Goals as goal

pub returns : goal.returns
returns c = record { kinds = three_kinds; best = offer_best }
