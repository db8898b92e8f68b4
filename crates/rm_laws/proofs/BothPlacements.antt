-- The placement of a case and that with one list replaced.
use Rattle.std.proofs.Common.{◌≡◌, ◌<◌, ℕ, List, length, Option, subst, arith}
use Rattle.rm_market.specs.Market.{Market, IsList, replaced, wishes_of}
use Rattle.rm_market_laws.proofs.Market.{truthful_in}
use Rattle.rm_market_laws.proofs.Wishes.{IsMarket-replaced}
use Rattle.rm_case.specs.Case.{CaseData, IsCase, market}
use Rattle.rm_case.specs.Solving.{IsSolved, IsSolvedWith}
use Rattle.rm_case.proofs.Solved.{solved-in}
use Rattle.rm_laws.specs.WhatIf.{AreBothPlaces}

module _ (c : CaseData) (ok : IsCase c) (d : ℕ) (list : List ℕ) (lt : d < length c.roster.doctors) (l : IsList (market c).board list) where
  pub both-places : (listed : List (List ℕ)) (declared others : List (Option ℕ)) → IsSolved c declared → listed ≡ (wishes_of (replaced (market c) d list)).listed
      → IsSolvedWith c listed others → AreBothPlaces c d list declared others
  both-places listed declared others solved same found =
      let m : Market = replaced (market c) d list in
      let other = solved-in m (IsMarket-replaced (market c) ok.market d list l) others (subst (λ (L : List (List ℕ)). IsSolvedWith c L others) same found) in
      let low : d < length (market c).lists = omega (arith, lt, ok.roster.list_each) in
      record {
        first = solved.set;
        second = other.0;
        placements = record {
          declared = solved.placement;
          other = other.1;
          no_gain = (truthful_in (market c) ok.market).no_gain d list solved.set other.0 low l solved.placement other.1;
        };
        first_places = solved.places;
        second_places = other.2;
      }
