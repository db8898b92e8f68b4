use Rattle.rm_valuation_laws.proofs.GreedySteps.{greedy_start, greedy_step, greedy_full, greedy_stop}
use Rattle.rm_valuation_laws.proofs.greedy_steps.Goals as goal

pub returns : goal.returns
returns c = record { start = greedy_start; step = greedy_step; full = greedy_full; stop = greedy_stop }
