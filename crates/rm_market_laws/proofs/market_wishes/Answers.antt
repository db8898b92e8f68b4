use Rattle.rm_market_laws.proofs.Wishes.{are_wishes, IsMarket-replaced}
use Rattle.rm_market_laws.proofs.market_wishes.Goals as goal

pub returns : goal.returns
returns c = record { wishes = are_wishes; replaced = IsMarket-replaced }
