-- Regions in which each contract's hospital stands once, told by tests.
use Rattle.std.proofs.Common.{◌≡◌, ℕ, suc, ◌+◌, ◌<◌, Bool, true, false, not, ◌||◌, cond, List, [], ◌∷◌, length, IsTrue, All, arith}
use Rattle.std.specs.List.{list_any, position_or_len}
use Rattle.rm_market.specs.Flexible.{Region}
use Rattle.rm_flexible_laws.specs.Region.{IsRegion, IsPlace}
use Rattle.rm_flexible.specs.Counts.{has_hospital}

-- as `IsRegions`, where n is the number of contracts and f gives the hospital of each
pub record AreRegions (n : ℕ) (f : ℕ → ℕ) (regions : List Region) : Type 0 where
  pub each : All IsRegion regions
  pub one : (h i j k l : ℕ) → IsPlace regions h i j → IsPlace regions h k l → i ≡ k
  pub all : (x : ℕ) → x < n → IsTrue (list_any (λ r. has_hospital r (f x)) regions)

-- the region of hospital h, by its place
abbrev pub region_of : List Region → ℕ → ℕ
region_of regions h = position_or_len (λ r. has_hospital r h) regions

found_more : {X : Type 0} (t : Bool) (p : X → Bool) (xs : List X) → (IsTrue (list_any p xs) → position_or_len p xs < length xs) → IsTrue (t || list_any p xs)
    → cond (not t) (1 + position_or_len p xs) 0 < suc (length xs)
found_more true p xs rest h = omega arith
found_more false p xs rest h = let lt = rest h in omega (arith, lt)

-- what passes somewhere first passes at a place of the list
pub found_within : {X : Type 0} (p : X → Bool) (xs : List X) → IsTrue (list_any p xs) → position_or_len p xs < length xs
found_within p [] h = absurd (cc)
found_within p (x ∷ xs) h = found_more (p x) p xs (found_within p xs) h
