-- Numbers that are gathered.
use Rattle.std.specs.Prelude.{◌≡◌, ◌||◌, ◌&&◌, ◌<◌, ◌≤◌, ◌*◌, nat_lt, ℕ, Bool, List, length}
use Rattle.rm_sets.specs.Sets.{has, IsIn, all_below}
use Rattle.rm_roster.specs.Roster.{RosterData}
use Rattle.rm_policy.specs.Groups.{by_prefecture, lies_in}

-- the numbers below the count that pass the test were added
pub record Gathers (count : ℕ) (old new : List ℕ) (test : ℕ → Bool) : Type 0 where
  pub members : (n : ℕ) → has n new ≡ (has n old || (nat_lt n count && test n))

-- numbers below the count, at most twice the count of them
pub record IsGathered (count : ℕ) (numbers : List ℕ) : Type 0 where
  pub below : (n : ℕ) → IsIn n numbers → n < count
  pub few : length numbers ≤ 2 * count

-- the hospitals that are among these, or in one of the prefectures of these numbers, or in one of the sets of these numbers
abbrev pub united : RosterData → List ℕ → List ℕ → List (List ℕ) → List ℕ → List ℕ
united r hospitals prefectures sets groups =
    all_below (length r.hospitals) (λ h. has h hospitals || lies_in h (by_prefecture r) prefectures || lies_in h sets groups)
