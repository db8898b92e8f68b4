use Rattle.rm_valuation_laws.proofs.BestOf.{best_of_is, board_best, board_only, board_choice}
use Rattle.rm_valuation_laws.proofs.best_of_boards.Goals as goal

pub returns : goal.returns
returns c = record { any = best_of_is; best = board_best; only = board_only; choice = board_choice }
