-- The doctors' file and the rank lists' file of a generated nation.
use Rattle.std.specs.Prelude.{ℕ, ◌+◌, ◌==◌, Bool, not, List, [], ◌∷◌, map, filter, length, get_or, codes}
use Rattle.rm_sets.specs.Sets.{below}
use Rattle.rm_base.specs.Text.{Text}
use Rattle.rm_table.specs.Rows.{Row}
use Rattle.rm_drill_laws.specs.Numbered.{numbered}
use Rattle.rm_drill_laws.specs.Plain.{choices_header, ranked_header}
use Rattle.rm_drill_laws.specs.Written.{written}
use Rattle.rm_drill.specs.Files.{hospital_name}

-- names count from 1
abbrev pub doctor_name : ℕ → Text
doctor_name d = numbered (codes "D") 6 (d + 1)

-- ---- doctors.csv: a row per doctor, with his choices

abbrev pub doctor_row : List (List ℕ) → ℕ → Row
doctor_row lists d = doctor_name d ∷ map hospital_name (get_or lists d [])

-- the header, and the rows of the first doctors
abbrev pub doctor_rows : List (List ℕ) → ℕ → List Row
doctor_rows lists n = choices_header ∷ map (doctor_row lists) (below n)

abbrev pub doctors_text : List (List ℕ) → Text
doctors_text lists = written (doctor_rows lists (length lists))

-- ---- ranks.csv: a row per hospital that ranks anybody

abbrev pub is_ranking : List (List ℕ) → ℕ → Bool
is_ranking lists h = not (length (get_or lists h []) == 0)

abbrev pub rank_row : List (List ℕ) → ℕ → Row
rank_row lists h = hospital_name h ∷ map doctor_name (get_or lists h [])

-- the header, and the rows of the first hospitals
abbrev pub rank_rows : List (List ℕ) → ℕ → List Row
rank_rows lists n = ranked_header ∷ map (rank_row lists) (filter (is_ranking lists) (below n))

abbrev pub ranks_text : List (List ℕ) → Text
ranks_text lists = written (rank_rows lists (length lists))
