use Rattle.std.proofs.Common.{◌≡◌, ◌++◌, take}
use Rattle.rm_table.proofs.push_cells.Given as goal

abbrev pub invariant-loop-j : goal.invariant-loop-j
invariant-loop-j l = l.cells ≡ l.fn.cells ++ take l.j l.rows.row
