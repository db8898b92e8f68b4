use Rattle.rm_valuation_laws.proofs.Best.{best_by_greedy, best_unique}
use Rattle.rm_valuation_laws.proofs.greedy_finds_the_best.Goals as goal

pub returns : goal.returns
returns c = record { best = best_by_greedy; only = best_unique }
