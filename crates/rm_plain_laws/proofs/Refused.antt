-- Placements of small markets without a policy that aren't stable, one for each thing that is asked.
use Rattle.std.proofs.Common.{◌≤◌, [], ◌∷◌, refl, inl, inr, arith}
use Rattle.rm_market.specs.Market.{Market}
use Rattle.rm_board_laws.specs.HospitalBoards.{plain_market}
use Rattle.rm_plain_laws.specs.Stability.{IsPairwiseStable}

-- one hospital with one seat ranks two doctors, who list it
abbrev one_seat : Market
one_seat = plain_market ((0 ∷ 1 ∷ []) ∷ []) (1 ∷ []) ((0 ∷ []) ∷ (0 ∷ []) ∷ [])

-- both are placed there; there is no blocking pair
over_capacity : ¬ IsPairwiseStable one_seat (1 ∷ []) (0 ∷ 1 ∷ [])
over_capacity s = let le : 2 ≤ 1 = s.in_capacities 0 (omega arith) in absurd (omega arith)

-- nobody is
free_seat : ¬ IsPairwiseStable one_seat (1 ∷ []) []
free_seat s = s.unblocked 0 (omega arith) (record { wanted = refl; welcome = inl (omega arith) })

-- the second one is, whom the hospital ranks below the first one
worse_ranked : ¬ IsPairwiseStable one_seat (1 ∷ []) (1 ∷ [])
worse_ranked s = s.unblocked 0 (omega arith) (record { wanted = refl; welcome = inr (1, refl, refl, omega arith) })
