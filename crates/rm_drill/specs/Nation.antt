-- The folder of a nation that is generated from a number of doctors and a seed.
use Rattle.std.specs.Prelude.{ℕ, List, [], ◌∷◌, codes}
use Rattle.std.specs.FinMap.{from_entries}
use Rattle.rm_base.specs.Text.{Text, Files}
use Rattle.rm_drill.specs.Choices.{choices}
use Rattle.rm_drill.specs.Files.{hospitals_text, policy_text}
use Rattle.rm_drill.specs.Hospitals.{capacities, hospital_count, targets}
use Rattle.rm_drill.specs.Lists.{doctors_text, ranks_text}
use Rattle.rm_drill.specs.Ranks.{ranks}

-- the folder's name
abbrev pub folder_name : Text
folder_name = codes "drill"

-- ---- the texts of n doctors and a seed

unfoldable pub nation_hospitals : ℕ → ℕ → Text
nation_hospitals n seed = hospitals_text (capacities seed (hospital_count n)) (targets seed (hospital_count n))

unfoldable pub nation_doctors : ℕ → ℕ → Text
nation_doctors n seed = doctors_text (choices (hospital_count n) seed n)

unfoldable pub nation_ranks : ℕ → ℕ → Text
nation_ranks n seed = ranks_text (ranks (hospital_count n) seed n)

unfoldable pub nation_policy : ℕ → ℕ → Text
nation_policy n seed = policy_text (capacities seed (hospital_count n)) (targets seed (hospital_count n))

-- the four files, and no others
abbrev pub generated : ℕ → ℕ → Files
generated n seed =
    from_entries (
    (codes "drill/hospitals.csv", nation_hospitals n seed)
    ∷ (codes "drill/doctors.csv", nation_doctors n seed)
    ∷ (codes "drill/ranks.csv", nation_ranks n seed)
    ∷ (codes "drill/policy.toml", nation_policy n seed)
    ∷ [])
