use Rattle.std.proofs.Common.{◌≡◌, ◌+◌, ◌≤◌, length, take}
use Rattle.std.specs.List.{suffix_len}
use Rattle.rm_table.specs.Rows.{is_blank}
use Rattle.rm_table.proofs.cells.kept_len.Given as goal

abbrev pub invariant-loop-n : goal.invariant-loop-n
invariant-loop-n l = (l.n ≤ length l.field) × (l.n + suffix_len is_blank l.field ≡ length l.field + suffix_len is_blank (take l.n l.field))

abbrev pub decreases-loop-n : goal.decreases-loop-n
decreases-loop-n l = l.n
