use Rattle.std.proofs.Common.{◌≡◌, ◌+◌, ◌≤◌, length, take, map}
use Rattle.std.specs.List.{suffix_len}
use Rattle.csv.specs.Records.{fields_of}
use Rattle.rm_table.specs.Rows.{cell_of, is_empty_cell}
use Rattle.rm_table.proofs.cells.cell_count.Given as goal

abbrev pub invariant-loop-n : goal.invariant-loop-n
invariant-loop-n l = let cells = map cell_of (fields_of l.fields) in
    (l.n ≤ length (fields_of l.fields)) × (l.n + suffix_len is_empty_cell cells ≡ length cells + suffix_len is_empty_cell (take l.n cells))

abbrev pub decreases-loop-n : goal.decreases-loop-n
decreases-loop-n l = l.n
