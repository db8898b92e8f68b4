-- The hospitals' file and the policy's file of a generated nation.
use Rattle.std.specs.Prelude.{ℕ, ◌+◌, ◌-◌, ◌/◌, ◌==◌, List, [], ◌∷◌, ◌++◌, map, flat_map, filter, length, sum_by, get_or, codes, decimal}
use Rattle.rm_sets.specs.Sets.{below}
use Rattle.rm_base.specs.Text.{Text}
use Rattle.rm_table.specs.Rows.{Row}
use Rattle.rm_roster.specs.Hospitals.{hospital_header}
use Rattle.rm_drill_laws.specs.Numbered.{numbered}
use Rattle.rm_drill_laws.specs.Written.{written}
use Rattle.rm_drill.specs.Hospitals.{prefecture_count, prefecture_of}

-- names count from 1
abbrev pub hospital_name : ℕ → Text
hospital_name h = numbered (codes "H") 5 (h + 1)

abbrev pub prefecture_name : ℕ → Text
prefecture_name q = numbered (codes "P") 2 (q + 1)

-- ---- hospitals.csv: a row per hospital

abbrev pub hospital_row : List ℕ → List ℕ → ℕ → Row
hospital_row capacities targets h =
    hospital_name h ∷ prefecture_name (prefecture_of h) ∷ decimal (get_or capacities h 0) ∷ decimal (get_or targets h 0) ∷ []

-- the header, and the rows of the first n hospitals
abbrev pub hospital_rows : List ℕ → List ℕ → ℕ → List Row
hospital_rows capacities targets n = hospital_header ∷ map (hospital_row capacities targets) (below n)

abbrev pub hospitals_text : List ℕ → List ℕ → Text
hospitals_text capacities targets = written (hospital_rows capacities targets (length capacities))

-- ---- policy.toml: an entry per prefecture, with the keys of a table in the order of their names, as `toml` prints them

-- what the first n hospitals of prefecture q have together
abbrev pub sum_in : List ℕ → ℕ → ℕ → ℕ
sum_in values q n = sum_by (λ h. get_or values h 0) (filter (λ h. prefecture_of h == q) (below n))

abbrev pub whole_sum : List ℕ → ℕ → ℕ
whole_sum values q = sum_in values q (length values)

-- the targets, and half of the seats past them
abbrev pub cap : List ℕ → List ℕ → ℕ → ℕ
cap capacities targets q = whole_sum targets q + (whole_sum capacities q - whole_sum targets q) / 2

abbrev pub entry : Text → ℕ → Text
entry name cap = codes "\n[[prefecture]]\ncap = " ++ (decimal cap ++ (codes "\nname = \"" ++ (name ++ codes "\"\n")))

abbrev pub entry_text : List ℕ → List ℕ → ℕ → Text
entry_text capacities targets q = entry (prefecture_name q) (cap capacities targets q)

abbrev pub policy_head : Text
policy_head = codes "kind = \"flexible\"\nversion = 1\n"

-- the head, and the entries of the first n prefectures
abbrev pub entries_text : List ℕ → List ℕ → ℕ → Text
entries_text capacities targets n = policy_head ++ flat_map (entry_text capacities targets) (below n)

abbrev pub policy_text : List ℕ → List ℕ → Text
policy_text capacities targets = entries_text capacities targets prefecture_count
