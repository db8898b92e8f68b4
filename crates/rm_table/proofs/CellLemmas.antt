-- The cells of a record.
use Rattle.std.proofs.Common.{◌≡◌, ◌<◌, ◌∙◌, ℕ, List, [], length, get_or, map, Some, ap, sym}
use Rattle.std.proofs.lemmas.List.{get_or-map}
use Rattle.csv.specs.Records.{field_at}
use Rattle.csv.proofs.RecordFacts.{field-get}
use Rattle.rm_table.specs.Rows.{cell_of}

-- the cell at a place, from its field
pub cell-is : (fields : List (List ℕ)) (i : ℕ) (field cell : List ℕ) → i < length fields → Some field ≡ field_at fields i → cell ≡ cell_of field
    → get_or (map cell_of fields) i [] ≡ cell
cell-is fields i field cell lt found is =
    get_or-map cell_of fields i [] [] lt ∙ ap cell_of (field-get fields i field (sym found)) ∙ sym is
