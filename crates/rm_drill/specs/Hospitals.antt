-- The hospitals of a generated nation.
use Rattle.std.specs.Prelude.{ℕ, ◌+◌, ◌*◌, ◌/◌, ◌%◌, min, max, List, map}
use Rattle.rm_sets.specs.Sets.{below}
use Rattle.rm_drill.specs.Draws.{draw}

abbrev pub prefecture_count : ℕ
prefecture_count = 47

-- how many hospitals there are for n doctors
abbrev pub hospital_count : ℕ → ℕ
hospital_count n = min 10000 (max prefecture_count (3 * n / 20))

-- hospitals are dealt to the prefectures in turn
abbrev pub prefecture_of : ℕ → ℕ
prefecture_of h = h % prefecture_count

-- hospitals are drawn in order, capacity before target
abbrev pub capacity : ℕ → ℕ → ℕ
capacity seed h = 1 + draw seed (h + h) % 10

abbrev pub target : ℕ → ℕ → ℕ
target seed h = draw seed (h + h + 1) % (capacity seed h + 1)

-- those of the first hospitals
abbrev pub capacities : ℕ → ℕ → List ℕ
capacities seed count = map (capacity seed) (below count)

abbrev pub targets : ℕ → ℕ → List ℕ
targets seed count = map (target seed) (below count)
