-- Sets that aren't stable as Kamada and Kojima say, one for each thing that they ask of a set and of a blocking pair.
use Rattle.std.proofs.Common.{◌<◌, ◌≤◌, List, [], ◌∷◌, ◌<ℤ◌, refl, sym, inl, inr, arith, true≢false}
use Rattle.std.proofs.lemmas.Int.{ints}
use Rattle.rm_market.specs.Best.{swapped}
use Rattle.rm_market.specs.Flexible.{Region}
use Rattle.rm_market.proofs.OnLiterals.{market_on_literals}
use Rattle.rm_market.proofs.Small.{two_region}
use Rattle.rm_flexible_laws.specs.Region.{IsPlace, seat_at}
use Rattle.rm_kamada_kojima_laws.specs.Stability.{IsKKStable, over_target}
use Rattle.rm_kamada_kojima_laws.proofs.SharedSeat.{regions, shared, first_place}
use Rattle.rm_kamada_kojima_laws.proofs.Examples.{alone, pair}
use Rattle.rm_kamada_kojima_laws.proofs.NoBest.{rivals}

-- the two hospitals, each with its one seat, in a region with two seats
abbrev roomy : List Region
roomy = record { cap = 2; seats = two_region.seats } ∷ []

-- a doctor has two places, within all caps, and wants nothing more
two_places : ¬ IsKKStable alone roomy (0 ∷ 1 ∷ [])
two_places s = let e = s.placement.once 0 1 refl refl refl in absurd (omega (arith, e))

-- a doctor who lists nothing has a place
unlisted : ¬ IsKKStable (shared (0 ∷ []) [] ([] ∷ [])) regions (0 ∷ [])
unlisted s = true≢false (sym (s.placement.listed 0 refl))

-- two doctors have the one seat of the region
over_cap : ¬ IsKKStable rivals regions (0 ∷ 1 ∷ [])
over_cap s = let le : 2 ≤ 1 = s.caps.in_caps 0 (omega arith) in absurd (omega arith)

-- and two the one seat of a hospital, which is the only one that they list, in a region with two seats
over_capacity : ¬ IsKKStable (shared (0 ∷ 1 ∷ []) [] ((0 ∷ []) ∷ (0 ∷ []) ∷ [])) roomy (0 ∷ 1 ∷ [])
over_capacity s = let le : 2 ≤ 1 = s.caps.in_capacities 0 0 (omega arith) (omega arith) in absurd (omega arith)

-- nobody is placed, though the region has a seat
nobody : ¬ IsKKStable alone regions []
nobody s = absurd (omega (arith, (s.excused 0 0 0 (omega arith) first_place (record { wanted = refl; welcome = inl (omega arith) })).full))

-- the first hospital holds the second doctor, whom it ranks below the first one, who asks there
pub below_him : ¬ IsKKStable pair regions (1 ∷ [])
below_him s =
    let lt : 1 < 0 = (s.excused 0 0 0 (omega arith) first_place (record { wanted = refl; welcome = inr (1, refl, refl, omega arith) })).above 1 refl refl in
    absurd (omega arith)

-- the same seat, where the first hospital has it as its target
abbrev aimed : Region
aimed = record { cap = 1; seats = record { hospital = 0; target = 1; capacity = 1 } ∷ record { hospital = 1; target = 0; capacity = 1 } ∷ [] }

aimed_place : IsPlace (aimed ∷ []) 0 0 0
aimed_place = record { region = omega arith; seat = omega arith; hospital = refl }

-- the doctor is at the second hospital, and by his move the first one would come to its target
off_target : ¬ IsKKStable alone (aimed ∷ []) (1 ∷ [])
unfolding market_on_literals
off_target s =
    let lt : over_target alone.board (swapped (1 ∷ []) 0 1) (seat_at aimed 1) <ℤ over_target alone.board (swapped (1 ∷ []) 0 1) (seat_at aimed 0) =
    (s.excused 0 0 0 (omega arith) aimed_place (record { wanted = refl; welcome = inl (omega arith) })).further 1 1 refl refl (omega arith) refl in
    absurd (omega (arith, ints))
