use Rattle.std.proofs.Common.{◌≡◌, ◌≤◌, length, get_or, take, filter, eqb}
use Rattle.rm_greedy.proofs.marks.write_marked.Given as goal

abbrev pub invariant-loop-i : goal.invariant-loop-i
invariant-loop-i l = record {
  long : length l.list ≡ length l.initial.list;
  within : l.count ≤ l.i;
  written : take l.count l.list ≡ filter (λ x. eqb (get_or l.marks x 0) 1) (take l.i l.contracts);
}
