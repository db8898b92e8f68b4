use Rattle.rm_market.specs.Board.{contract_count}
use Rattle.rm_flexible_laws.proofs.Laws.{flexible_lawful}
use Rattle.rm_flexible_laws.proofs.regions_are_lawful.Goals as goal

pub returns : goal.returns
returns c b regions ok = flexible_lawful (contract_count b) b regions ok
