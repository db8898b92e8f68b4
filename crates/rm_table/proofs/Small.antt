-- The rows of small texts.
use Rattle.std.proofs.Common.{◌≡◌, [], ◌∷◌, ◌++◌, Some, None, codes, refl}
use Rattle.rm_table.specs.Rows.{rows_of, bad_text}
use Rattle.rm_table.proofs.OnLiterals.{table_on_literals}

-- the byte order mark, CR LF, quotes, blanks round a cell, empty records and empty cells at the end
rows_example : rows_of (0xEF ∷ 0xBB ∷ 0xBF ∷ codes "hospital,prefecture,capacity,target,,\r\n , ,\r\n\"St. Luke, East\", P\t,1,,,\r\n")
    ≡ (codes "hospital" ∷ codes "prefecture" ∷ codes "capacity" ∷ codes "target" ∷ []) ∷ (codes "St. Luke, East" ∷ codes "P" ∷ codes "1" ∷ []) ∷ []
unfolding table_on_literals
rows_example = refl

-- a cell of a newline isn't empty
newline_example : rows_of (codes "a\n\"\n\"\n") ≡ (codes "a" ∷ []) ∷ (codes "\n" ∷ []) ∷ []
unfolding table_on_literals
newline_example = refl

-- dropped records have no number
bad_example : bad_text (rows_of (codes "a\n,\n" ++ 0xFF ∷ codes "\nb\n")) ≡ Some 1
unfolding table_on_literals
bad_example = refl

good_example : bad_text (rows_of (codes "a," ++ 0xCE ∷ 0xBB ∷ [])) ≡ None
unfolding table_on_literals
good_example = refl
