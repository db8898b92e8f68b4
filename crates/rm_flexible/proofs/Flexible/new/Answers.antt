use Rattle.rm_market.specs.Board.{contract_count, hospital_of}
use Rattle.rm_flexible_laws.proofs.Laws.{flexible_lawful}
use Rattle.rm_flexible.proofs.Together.{tests_from_regions}
use Rattle.rm_flexible.proofs.Flexible.new.Goals as goal

pub invariant_of-result : goal.invariant_of-result
invariant_of-result c =
    let b = c.args.board.now in
    record {
      lawful = flexible_lawful (contract_count b) b c.args.regions.now c.requires.lawful;
      places = tests_from_regions (contract_count b) (hospital_of b) c.args.regions.now c.requires.lawful;
      hospitals = c.requires.hospitals;
    }
