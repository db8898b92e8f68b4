-- What regions keep is a lawful choice, and on their board the best subset.
use Rattle.std.proofs.Common.{List, length}
use Rattle.rm_market.specs.Board.{Board, contract_count, hospital_of}
use Rattle.rm_market.specs.Stable.{Wishes}
use Rattle.rm_market.specs.Flexible.{Region, flexible}
use Rattle.rm_market.specs.Market.{Market, IsMarket}
use Rattle.rm_market.specs.Laws.{AreWishes, RunsWell, PlacesSame, IsTruthful}
use Rattle.rm_matching_laws.specs.Results.{RunsClose}
use Rattle.rm_matching_laws.proofs.EveryChoice.{every_choice, runs_close_of}
use Rattle.rm_market_laws.specs.Results.{ChoosesBest}
use Rattle.rm_flexible_laws.specs.Region.{IsRegions}
use Rattle.rm_flexible_laws.specs.Compiled.{IsCompiled}
use Rattle.rm_flexible_laws.proofs.Laws.{flexible_lawful}
use Rattle.rm_flexible_laws.proofs.Results.{flexible_is_best}

module _ (b : Board) (regions : List Region) (w : Wishes) (ok : IsRegions (contract_count b) (hospital_of b) regions) (a : AreWishes (contract_count b) w) where
  pub laws : RunsWell (flexible b regions) w × PlacesSame (flexible b regions) w × IsTruthful (flexible b regions) w
  laws = every_choice (contract_count b) (flexible b regions) w (flexible_lawful (contract_count b) b regions ok) a

  pub closes : RunsClose (flexible b regions) w
  closes = runs_close_of (contract_count b) (flexible b regions) w (flexible_lawful (contract_count b) b regions ok) a

pub chooses_best : (m : Market) (regions : List Region) → IsMarket m → IsRegions (contract_count m.board) (hospital_of m.board) regions → IsCompiled m.board regions → ChoosesBest m (flexible m.board regions)
chooses_best m regions market ok made X x = flexible_is_best m.board regions ok (length m.lists) market.board made X x
