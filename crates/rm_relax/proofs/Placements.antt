-- The placement of a case, and that with a raised cap or without a doctor.
use Rattle.std.proofs.Common.{◌≡◌, ◌<◌, ℕ, List, [], length, Option, subst, arith}
use Rattle.rm_market.specs.Board.{Board}
use Rattle.rm_market.specs.Market.{IsMarket, wishes_of}
use Rattle.rm_relax_laws.specs.Raised.{IsRaisedCap}
use Rattle.rm_relax_laws.proofs.Results.{cap_helps, withdrawing_helps_in}
use Rattle.rm_case.specs.Case.{CaseData, IsCase, market}
use Rattle.rm_case.specs.Raised.{node_of_group, raised}
use Rattle.rm_case.specs.Solving.{ArePlacesOf, IsSolved}
use Rattle.rm_case.proofs.Solved.{solved-in}
use Rattle.rm_laws.specs.WhatIf.{AreBothPlaces}
use Rattle.rm_relax.specs.Relaxed.{AreRelaxed, AreWithoutHim}

pub relaxed : (c : CaseData) (g cap : ℕ) (board : Board) (before after : List (Option ℕ)) → IsCase c → IsRaisedCap (market c).board (node_of_group c g) cap → IsMarket (raised c g cap)
    → IsSolved c before → board ≡ (raised c g cap).board → ArePlacesOf board (wishes_of (market c)) after → AreRelaxed c g cap before after
relaxed c g cap board before after ok may made solved same found =
    let other = solved-in (raised c g cap) made after (subst (λ (b : Board). ArePlacesOf b (wishes_of (market c)) after) same found) in
    record {
      first = solved.set;
      second = other.0;
      placement = solved.placement;
      other = other.1;
      no_worse = λ d. cap_helps (market c) ok.market (node_of_group c g) cap solved.set other.0 d may solved.placement.optimal.stable other.1;
      first_places = solved.places;
      second_places = other.2;
    }

pub withdrawn : (c : CaseData) (d : ℕ) (before after : List (Option ℕ)) → IsCase c → d < length c.roster.doctors → AreBothPlaces c d [] before after → AreWithoutHim c d before after
withdrawn c d before after ok lt both =
    let low : d < length (market c).lists = omega (arith, lt, ok.roster.list_each) in
    record {
      both = both;
      no_worse = λ e other. withdrawing_helps_in (market c) ok.market d e both.first both.second low other both.placements.declared both.placements.other;
    }
