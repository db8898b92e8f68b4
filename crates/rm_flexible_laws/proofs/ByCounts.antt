-- What regions keep, told by counts and by the numbers of turns. Here f gives the hospital of each contract.
use Rattle.std.specs.Prelude.{◌≡◌, ◌⊎◌, ℕ, ◌+◌, ◌-◌, ◌*◌, ◌<◌, ◌≤◌, ◌==◌, nat_le, Bool, false, List, length, filter, if◌then◌else◌}
use Rattle.std.specs.List.{list_any}
use Rattle.rm_sets.specs.Sets.{has, IsIn, IsSet, IsWithin}
use Rattle.rm_market.specs.Flexible.{Region, Seat}
use Rattle.rm_flexible_laws.specs.Region.{seat_at, region_at, IsPlace}

-- ---- counts and turns

-- how many contracts of S are at the seat's hospital, and at the region's hospitals
abbrev pub count_at : (ℕ → ℕ) → Seat → List ℕ → ℕ
count_at f s S = length (filter (λ x. f x == s.hospital) S)

abbrev pub is_of : (ℕ → ℕ) → Region → ℕ → Bool
is_of f r x = list_any (λ s. s.hospital == f x) r.seats

abbrev pub count_in : (ℕ → ℕ) → Region → List ℕ → ℕ
count_in f r S = length (filter (is_of f r) S)

-- the number of the turn in which a hospital with this target fills its seat k: 0 up to the target, and then from 1 on, in
-- rounds of m turns, of which the hospital has the turn j + 1
abbrev pub turn_number : ℕ → ℕ → ℕ → ℕ → ℕ
turn_number m j target k = if nat_le k target then 0 else (k - target - 1) * m + (j + 1)

abbrev pub turn_of : Region → ℕ → ℕ → ℕ
turn_of r j k = turn_number (length r.seats) j (seat_at r j).target k

-- ---- what a pick holds

-- the region is full, and no seat that is held in it has a later turn than the next seat of hospital j
pub record IsFull (f : ℕ → ℕ) (r : Region) (S : List ℕ) (j : ℕ) : Type 0 where
  pub full : count_in f r S ≡ r.cap
  pub later : (k : ℕ) → k < length r.seats → 0 < count_at f (seat_at r k) S → turn_of r k (count_at f (seat_at r k) S) < turn_of r j (count_at f (seat_at r j) S + 1)

-- the contract x at the seat j is passed over: all that its hospital holds is ranked above it, and the hospital has no seat for more
pub record IsPassed (f : ℕ → ℕ) (r : Region) (S : List ℕ) (j x : ℕ) : Type 0 where
  pub above : (y : ℕ) → IsIn y S → f y ≡ f x → y < x
  pub no_seat : (count_at f (seat_at r j) S ≡ (seat_at r j).capacity) ⊎ IsFull f r S j

-- no region and no hospital holds too many
pub record IsInCaps (f : ℕ → ℕ) (regions : List Region) (S : List ℕ) : Type 0 where
  pub in_region : (i : ℕ) → i < length regions → count_in f (region_at regions i) S ≤ (region_at regions i).cap
  pub at_seat : (i j : ℕ) → i < length regions → j < length (region_at regions i).seats → count_at f (seat_at (region_at regions i) j) S ≤ (seat_at (region_at regions i) j).capacity

-- S is what the regions keep of X: each other contract of X is passed over
pub record IsPickedBy (f : ℕ → ℕ) (regions : List Region) (X S : List ℕ) : Type 0 where
  pub set : IsSet S
  pub within : IsWithin S X
  pub caps : IsInCaps f regions S
  pub passed : (x i j : ℕ) → IsIn x X → has x S ≡ false → IsPlace regions (f x) i j → IsPassed f (region_at regions i) S j x
