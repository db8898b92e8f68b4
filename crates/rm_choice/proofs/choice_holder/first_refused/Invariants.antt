use Rattle.std.proofs.Common.{◌≡◌, ◌≤◌, take, drop, find, not, length}
use Rattle.rm_sets.specs.Sets.{has}
use Rattle.rm_choice.proofs.choice_holder.first_refused.Given as goal

abbrev pub invariant-loop-i : goal.invariant-loop-i
invariant-loop-i l = record {
  within : l.i ≤ length l.chosen;
  same : take l.i l.offered ≡ take l.i l.chosen;
  found : find (λ z. not (has z l.chosen)) l.offered ≡ find (λ z. not (has z l.chosen)) (drop l.i l.offered);
}
