-- Cells that are kept one after another in one text, and rows in one list of cells, each with the places where they end.
use Rattle.std.specs.Prelude.{◌≡◌, ℕ, ◌-◌, List, [], ◌∷◌, length, take, drop, All, IsCharBoundary}
use Rattle.csv.specs.Records.{Rising, last_end}
use Rattle.rm_table.specs.Rows.{Row}

-- the cells from a place up to another
abbrev pub between : ℕ → ℕ → Row → Row
between start end cells = take (end - start) (drop start cells)

-- the rows that end at these places, after a start
unfoldable pub rows_cut : ℕ → List ℕ → Row → List Row
rows_cut start [] cells = []
rows_cut start (end ∷ ends) cells = between start end cells ∷ rows_cut end ends cells

-- the rows end in order, and the last one where the cells end
pub record ArePackedRows (ends : List ℕ) (cells : Row) : Type 0 where
  pub rising : Rising 0 ends (length cells)
  pub last : last_end 0 ends ≡ length cells

-- the cells end in order, the last one where the text ends, and each at the end of a character
pub record ArePackedCells (ends bytes : List ℕ) : Type 0 where
  pub rising : Rising 0 ends (length bytes)
  pub last : last_end 0 ends ≡ length bytes
  pub chars : All (IsCharBoundary bytes) ends
