use Rattle.rm_flexible_laws.proofs.Results.{stable_is_count_form}
use Rattle.rm_flexible_laws.proofs.Stable.{market_count_form}
use Rattle.rm_flexible_laws.proofs.stable_is_count_form.Goals as goal

pub returns : goal.returns
returns c = record {
  board = λ doctors b regions board ok made. stable_is_count_form b regions ok doctors board made;
  market = market_count_form;
}
