use Rattle.std.proofs.Common.{◌≡◌, ◌+◌, ◌-◌, ◌≤◌, length, drop}
use Rattle.std.specs.List.{prefix_len}
use Rattle.rm_table.specs.Rows.{is_blank}
use Rattle.rm_table.proofs.cells.front_len.Given as goal

abbrev pub invariant-loop-n : goal.invariant-loop-n
invariant-loop-n l = (l.n ≤ length l.field) × (prefix_len is_blank l.field ≡ l.n + prefix_len is_blank (drop l.n l.field))

abbrev pub decreases-loop-n : goal.decreases-loop-n
decreases-loop-n l = length l.field - l.n
