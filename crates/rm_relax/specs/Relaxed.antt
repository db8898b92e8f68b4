-- Two placements side by side: before and after a cap is raised, and before and after a doctor withdraws.
use Rattle.std.specs.Prelude.{◌≡◌, ℕ, List, [], Option, IsFalse}
use Rattle.rm_market.specs.Market.{Market, IsPlacementOf, places_of, wishes_of}
use Rattle.rm_market.specs.Stable.{at, prefers_place}
use Rattle.rm_case.specs.Case.{CaseData, market}
use Rattle.rm_case.specs.Raised.{raised}
use Rattle.rm_laws.specs.WhatIf.{AreBothPlaces}

-- by his list in the market doctor d doesn't prefer his place in S to the one in T
abbrev pub IsNoWorse : Market → List ℕ → List ℕ → ℕ → Type 0
IsNoWorse m S T d = IsFalse (prefers_place (wishes_of m) d (at (wishes_of m) d S) (at (wishes_of m) d T))

-- the places of the placement of a case, and of the one where group g has this cap: no doctor prefers his former place
pub record AreRelaxed (c : CaseData) (g cap : ℕ) (before after : List (Option ℕ)) : Type 0 where
  pub first : List ℕ
  pub second : List ℕ
  pub placement : IsPlacementOf (market c) first
  pub other : IsPlacementOf (raised c g cap) second
  pub no_worse : (d : ℕ) → IsNoWorse (market c) first second d
  pub first_places : before ≡ places_of (market c) first
  pub second_places : after ≡ places_of (raised c g cap) second

-- the places of the placement of a case, and of the one where doctor d lists nobody: no other doctor prefers his former place
pub record AreWithoutHim (c : CaseData) (d : ℕ) (before after : List (Option ℕ)) : Type 0 where
  pub both : AreBothPlaces c d [] before after
  pub no_worse : (e : ℕ) → ¬ (e ≡ d) → IsNoWorse (market c) both.first both.second e
