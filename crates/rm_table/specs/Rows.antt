-- The rows of a text of CSV: its records, each cell without blanks at its ends, each row without empty cells at its end, and no row without a cell.
use Rattle.std.specs.Prelude.{ℕ, ◌-◌, ◌==◌, ◌||◌, Bool, true, false, not, List, [], ◌∷◌, length, map, take, filter, slice_range, position, Option}
use Rattle.std.specs.List.{prefix_len, suffix_len, list_all}
use Rattle.std.specs.Str.{is_utf8}
use Rattle.csv.specs.Reading.{default_config, records, strip_bom}

-- a row is its cells, and a cell its bytes
abbrev pub Row : Type 0
Row = List (List ℕ)

-- a space or a tab
abbrev pub is_blank : ℕ → Bool
is_blank b = (b == 0x20) || (b == 0x09)

-- the cell of a field: what is left without the blanks at both ends
abbrev pub cell_of : List ℕ → List ℕ
cell_of field = slice_range field (prefix_len is_blank field) (length field - suffix_len is_blank field)

abbrev pub is_empty_cell : List ℕ → Bool
is_empty_cell cell = length cell == 0

-- how many cells come before the empty ones at the end
abbrev pub row_len : Row → ℕ
row_len cells = length cells - suffix_len is_empty_cell cells

-- the row of a record's fields, which may have no cell
abbrev pub row_of : List (List ℕ) → Row
row_of fields = take (row_len (map cell_of fields)) (map cell_of fields)

abbrev pub has_cell : Row → Bool
has_cell [] = false
has_cell (cell ∷ cells) = true

-- the rows of records: those that have a cell
abbrev pub rows_from : List (List (List ℕ)) → List Row
rows_from fields = filter has_cell (map row_of fields)

-- the rows of a text
unfoldable pub rows_of : List ℕ → List Row
rows_of bytes = rows_from (records default_config (strip_bom bytes))

-- each cell is UTF-8
abbrev pub is_text : Row → Bool
is_text row = list_all is_utf8 row

-- the first row with a cell that isn't UTF-8
unfoldable pub bad_text : List Row → Option ℕ
bad_text rows = position (λ row. not (is_text row)) rows
