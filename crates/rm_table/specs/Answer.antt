-- What reading a table answers.
use Rattle.std.specs.Prelude.{◌≡◌, ℕ, List, Some, None, Result, Ok, Err}
use Rattle.rm_table.specs.Rows.{Row, rows_of, bad_text}
use Rattle.rm_table.specs.declared.TableFault.{TableFault}
use Rattle.rm_table.specs.declared.TableFault.TheVariants as fault

-- all rows of a text, each cell of which is UTF-8, or the number of the first row that has another cell
abbrev pub ReadsRows : List ℕ → Result (List Row) TableFault → Type 0
ReadsRows bytes (Ok rows) = (bad_text (rows_of bytes) ≡ None) × (rows ≡ rows_of bytes)
ReadsRows bytes (Err (fault.BadText n)) = bad_text (rows_of bytes) ≡ Some n
ReadsRows bytes (Err fault.NoMemory) = Unit {0}
