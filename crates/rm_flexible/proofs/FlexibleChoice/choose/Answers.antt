use Rattle.rm_market.specs.Board.{contract_count, hospital_of}
use Rattle.rm_flexible.proofs.Together.{regions_from_tests}
use Rattle.rm_flexible.proofs.FlexibleChoice.choose.Goals as goal

pub choose-requires-clause-lawful : goal.choose-requires-clause-lawful
choose-requires-clause-lawful c =
    let s = c.args.self.now in
    regions_from_tests (contract_count s.board.now) (hospital_of s.board.now) s.regions.now s.places
