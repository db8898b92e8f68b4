use Rattle.rm_market.specs.Flexible.{flexible}
use Rattle.rm_market_laws.proofs.Market.{runs_well_in, runs_close_in, has_placement}
use Rattle.rm_flexible_laws.proofs.Procedure.{chooses_best}
use Rattle.rm_flexible_laws.proofs.flexible_runs_give_the_placement.Goals as goal

pub returns : goal.returns
returns c = record {
  runs = λ m regions market ok made. runs_well_in m market (flexible m.board regions) (chooses_best m regions market ok made);
  closes = λ m regions market ok made. runs_close_in m market (flexible m.board regions) (chooses_best m regions market ok made);
  placement = λ m regions market ok made. has_placement m market (flexible m.board regions) (chooses_best m regions market ok made);
}
