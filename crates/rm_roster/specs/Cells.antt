-- Rows and cells of a table, and what a cell may be.
use Rattle.std.specs.Prelude.{ℕ, ◌-◌, Bool, ◌&&◌, nat_le, List, [], length, get_or, Option, Some, None, option_map}
use Rattle.std.specs.List.{list_all}
use Rattle.std.specs.Char.{is_ascii_digit}
use Rattle.std.specs.Str.Parse.{digits_value}
use Rattle.rm_base.specs.Text.{Text}
use Rattle.rm_base.specs.Codes.{refuse}
use Rattle.rm_base.specs.declared.Refusal.{Refusal}
use Rattle.rm_base.specs.declared.codes.TheConstants.{WRONG_HEADER}
use Rattle.rm_table.specs.Rows.{Row}
pub use Rattle.rm_table.specs.Header.{data_rows}
unfoldable pub use Rattle.rm_table.specs.Header.{wrong_cell}

-- the cell of a field, counted from 1, or the empty text past the end
abbrev pub field : ℕ → Row → Text
field j row = get_or row (j - 1) []

-- the text in the first field
abbrev pub name_in : Row → Text
name_in row = field 1 row

-- ---- numbers

-- 1 to 9 digits
abbrev pub is_number : Text → Bool
is_number text = nat_le 1 (length text) && nat_le (length text) 9 && list_all is_ascii_digit text

-- the number of a text, where it is one
abbrev pub number : Text → ℕ
number text = digits_value 10 text

-- ---- the header

abbrev pub header_check : ℕ → List Text → List Row → Option Refusal
header_check file wanted rows = option_map (λ j. refuse WRONG_HEADER file 0 j) (wrong_cell 0 wanted (get_or rows 0 []))
