-- The header of rows: their first one.
use Rattle.std.specs.Prelude.{◌≡◌, ℕ, ◌+◌, List, [], ◌∷◌, drop, get_or, Option, Some, None, Result, Ok, Err, if◌then◌else◌}
use Rattle.std.specs.Str.{bytes_eq}
use Rattle.rm_table.specs.Rows.{Row}
use Rattle.rm_table.specs.Source.{FindsBadText, IsAt, Stand, begins_at}
use Rattle.rm_table.specs.declared.TableFault.{TableFault}

-- the field of the first of the wanted cells that the header lacks, where j of them stand before
unfoldable pub wrong_cell : ℕ → List (List ℕ) → Row → Option ℕ
wrong_cell j [] header = None
wrong_cell j (wanted ∷ rest) header = if bytes_eq (get_or header j []) wanted then wrong_cell (j + 1) rest header else Some (j + 1)

-- the header, which is the empty row where there is none
abbrev pub header_of : List Row → Row
header_of rows = get_or rows 0 []

-- the rows after the header
abbrev pub data_rows : List Row → List Row
data_rows rows = drop 1 rows

-- the header is read, and the rows after it are to come
abbrev pub HeaderIs : List Row → List (List ℕ) → Stand → Result (Option ℕ) TableFault → Type 0
HeaderIs rows wanted new (Ok field) = (field ≡ wrong_cell 0 wanted (header_of rows)) × IsAt rows new × (new.coming ≡ data_rows rows)
HeaderIs rows wanted new (Err e) = FindsBadText rows (Err e)

abbrev pub ReadsHeader : Stand → List (List ℕ) → Stand → Result (Option ℕ) TableFault → Type 0
ReadsHeader old wanted new result = (rows : List Row) → old ≡ begins_at rows → HeaderIs rows wanted new result
