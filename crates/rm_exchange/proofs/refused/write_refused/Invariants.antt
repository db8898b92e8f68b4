use Rattle.std.proofs.Common.{◌≡◌, ◌≤◌, length, take}
use Rattle.std.specs.Prelude.{filter, not}
use Rattle.rm_sets.specs.Sets.{has}
use Rattle.rm_exchange.proofs.refused.write_refused.Given as goal

abbrev pub invariant-loop-i : goal.invariant-loop-i
invariant-loop-i l = record {
  long : length l.list ≡ length l.initial.list;
  within : l.count ≤ l.i;
  written : take l.count l.list ≡ filter (λ y. not (has y l.chosen)) (take l.i l.offered);
}
