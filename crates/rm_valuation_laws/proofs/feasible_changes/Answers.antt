use Rattle.rm_valuation_laws.proofs.Change.{added_feasible, added_infeasible, swap_feasible, swap_infeasible}
use Rattle.rm_valuation_laws.proofs.feasible_changes.Goals as goal

pub returns : goal.returns
returns c = record { addition = added_feasible; no_addition = added_infeasible; swap = swap_feasible; no_swap = swap_infeasible }
