-- How many of the offered contracts at each hospital are left, while a region takes some of them.
use Rattle.std.specs.Prelude.{◌≡◌, ℕ, ◌+◌, ◌<◌, ◌≤◌, Bool, ◌==◌, nat_lt, List, [], length, slice_index, IsTrue, if◌then◌else◌, All}
use Rattle.std.specs.List.{list_any}
use Rattle.rm_sets.specs.Sets.{IsIn, IsSet, IsWithin}
use Rattle.rm_market.specs.Board.{Board}
use Rattle.rm_market.specs.Flexible.{Region, held_at, in_region, is_seat_of, kept}
use Rattle.rm_flexible_laws.specs.Region.{seat_at, region_at}

-- whether hospital h is one of the region's
abbrev pub has_hospital : Region → ℕ → Bool
has_hospital r h = list_any (λ s. s.hospital == h) r.seats

-- the region's hospitals are below n
abbrev pub AreBelow : ℕ → Region → Type 0
AreBelow n r = All (λ s. s.hospital < n) r.seats

-- a set of contracts at the region's hospitals
pub record IsOffered (b : Board) (r : Region) (X : List ℕ) : Type 0 where
  pub set : IsSet X
  pub inside : (x : ℕ) → IsIn x X → IsTrue (list_any (is_seat_of b x) r.seats)

-- at each hospital of the region, the count says how many contracts of X are not in K
abbrev pub AreLeft : Board → Region → List ℕ → List ℕ → List ℕ → Type 0
AreLeft b r X K counts =
    (j : ℕ) → j < length r.seats → slice_index counts (seat_at r j).hospital + held_at b K (seat_at r j) ≡ held_at b X (seat_at r j)

-- the region takes the part K of X, so many contracts together
pub record IsTaken (b : Board) (r : Region) (X K : List ℕ) (counts : List ℕ) (size : ℕ) : Type 0 where
  pub set : IsSet K
  pub within : IsWithin K X
  pub total : length K ≡ size
  pub cap : size ≤ r.cap
  pub left : AreLeft b r X K counts

-- how many turns the hospital at place j has had, where the round q has come to place i
abbrev pub turns_at : ℕ → ℕ → ℕ → ℕ
turns_at q i j = if nat_lt j i then q + 1 else q

-- the same in round q at place i: each hospital has taken a contract at each of its turns, unless it has none left, or it or the region is full
pub record IsInRound (b : Board) (r : Region) (X K : List ℕ) (q i : ℕ) (counts : List ℕ) (total : ℕ) : Type 0 where
  pub taken : IsTaken b r X K counts total
  pub most : (j : ℕ) → j < length r.seats → held_at b K (seat_at r j) ≤ (seat_at r j).target + turns_at q i j
  pub each : (j : ℕ) → j < length r.seats → total < r.cap → 0 < slice_index counts (seat_at r j).hospital → held_at b K (seat_at r j) < (seat_at r j).capacity →
      held_at b K (seat_at r j) ≡ (seat_at r j).target + turns_at q i j

-- the counts of all regions' hospitals: of each, how many contracts of X it has
abbrev pub AreCounted : Board → List Region → List ℕ → List ℕ → Type 0
AreCounted b regions X counts = (i : ℕ) → i < length regions → AreLeft b (region_at regions i) X [] counts

-- of each, how many of them its region doesn't keep
abbrev pub AreKept : Board → List Region → List ℕ → List ℕ → Type 0
AreKept b regions X counts =
    (i : ℕ) → i < length regions → AreLeft b (region_at regions i) X (kept b (region_at regions i) (in_region b (region_at regions i) X)) counts
