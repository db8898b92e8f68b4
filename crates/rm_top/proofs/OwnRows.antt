-- The rows of a command without a file of its own.
use Rattle.std.proofs.Common.{◌≡◌, ◌∙◌, List, [], Option, Some, None, Ok, refl}
use Rattle.csv.specs.Machine.{next_record}
use Rattle.csv.specs.Reading.{records_from, strip_bom}
use Rattle.rm_base.specs.Text.{Files}
use Rattle.rm_table.specs.Rows.{Row, rows_of}
use Rattle.rm_top.specs.Command.{Command, own_file_in}
use Rattle.rm_top.specs.Telling.{LoadsRows}

-- an empty text has none
empty_rows : rows_of [] ≡ []
unfolding rows_of records_from strip_bom next_record
empty_rows = refl

pub no_rows : (files : Option Files) (command : Command) (rows : List Row) → own_file_in command ≡ None → rows ≡ rows_of [] → LoadsRows files command (Ok rows)
no_rows None command rows none is = tt
no_rows (Some fs) command rows none is = rw none (refl, is ∙ empty_rows)
