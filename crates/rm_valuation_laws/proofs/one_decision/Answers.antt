use Rattle.rm_valuation_laws.proofs.Decision.{addition_better, swap_better, held_better}
use Rattle.rm_valuation_laws.proofs.one_decision.Goals as goal

pub returns : goal.returns
returns c = record { addition = addition_better; swap = swap_better; held = held_better }
