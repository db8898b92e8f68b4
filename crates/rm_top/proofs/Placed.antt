-- What is promised of a placement, by the laws of markets and of the flexible procedure.
use Rattle.std.proofs.Common.{◌≡◌, ℕ, List, Option, IsTrue}
use Rattle.rm_base.specs.Text.{Text}
use Rattle.rm_market.specs.Board.{is_feasible}
use Rattle.rm_market.specs.Flexible.{Region, flexible}
use Rattle.rm_market.specs.Market.{Market, IsMarket, IsPlacementOf}
use Rattle.rm_market_laws.specs.Results.{ChoosesBest, IsTruthfulIn}
use Rattle.rm_market_laws.proofs.Market.{same_in, truthful_in, runs_well_in, runs_close_in}
use Rattle.rm_group_laws.proofs.MarketGroups.{no_group_gains, nothing_better_in}
use Rattle.rm_group_laws.proofs.MarketParts.{fills_the_same}
use Rattle.rm_flexible_laws.proofs.Procedure.{chooses_best}
use Rattle.rm_kamada_kojima_laws.proofs.Results.{placement_is_kk_stable}
use Rattle.rm_case.specs.Case.{CaseData, IsCase, market, regions}
use Rattle.rm_case.specs.Regions.{AreRegionsOf}
use Rattle.rm_case.specs.Solving.{IsSolved}
use Rattle.rm_report.specs.Report.{prefecture_text}
use Rattle.rm_report.specs.Texts.{placement_text}
use Rattle.rm_transit_laws.specs.declared.Event.{Event}
use Rattle.rm_transit.specs.Running.{marks_after, rests_after, state_after, LeadsToPlacement}
use Rattle.rm_transit.specs.Texts.{transit_text}
use Rattle.rm_top.specs.Answers.{IsPlacementText, IsReportText, IsTransitText}
use Rattle.rm_top.specs.Headline.{NobodyGains, PlacesTheSame, procedure_after, EndsIn, IsPlaced}

nobody_gains : (m : Market) (S : List ℕ) → IsMarket m → IsPlacementOf m S → NobodyGains m S
nobody_gains m S ok is =
    let law : IsTruthfulIn m = truthful_in m ok in
    record { exists = law.exists; no_gain = λ d list T lt l t. law.no_gain d list S T lt l is t }

places_the_same : (m : Market) (S : List ℕ) → IsMarket m → IsPlacementOf m S → PlacesTheSame m S
places_the_same m S ok is T d t = same_in m ok T S d t is.optimal.stable

pub ends_in : (m : Market) (regions : List Region) (S : List ℕ) → IsMarket m → AreRegionsOf m.board regions → IsPlacementOf m S → EndsIn m regions S
ends_in m regions S ok are is =
    let best : ChoosesBest m (flexible m.board regions) = chooses_best m regions ok are.lawful are.compiled in
    record {
      goes_on = runs_close_in m ok (flexible m.board regions) best;
      ends = λ ds ended. is.only (procedure_after m regions ds).held ((runs_well_in m ok (flexible m.board regions) best).closed ds ended).optimal;
    }

pub placed : (c : CaseData) (S : List ℕ) → IsCase c → IsTrue (is_feasible (market c).board S) → IsPlacementOf (market c) S → IsPlaced c S
placed c S case feasible is = record {
  feasible = feasible;
  placement = is;
  truthful = nobody_gains (market c) S case.market is;
  groups = no_group_gains (market c) S case.market is;
  efficient = nothing_better_in (market c) S case.market is;
  same = places_the_same (market c) S case.market is;
  fills = fills_the_same (market c) case.market S is.optimal.stable;
  flexible = λ kind. ends_in (market c) (regions c) S case.market (case.regions kind) is;
  kk_stable = λ kind. let are = case.regions kind in placement_is_kk_stable (market c) (regions c) case.market are.lawful are.compiled S is;
}

pub placed_text : (c : CaseData) (hospitals : List (Option ℕ)) (text : Text) → IsCase c → IsSolved c hospitals → text ≡ placement_text c hospitals → IsPlacementText c text
placed_text c hospitals text case solved is = (solved.set, placed c solved.set case solved.feasible solved.placement, rw solved.places at is)

pub placed_report : (c : CaseData) (hospitals : List (Option ℕ)) (text : Text) → IsCase c → IsSolved c hospitals → text ≡ prefecture_text c hospitals → IsReportText c text
placed_report c hospitals text case solved is = (solved.set, placed c solved.set case solved.feasible solved.placement, rw solved.places at is)

pub placed_travel : (c : CaseData) (es : List Event) (text : Text) → IsCase c → LeadsToPlacement c es → text ≡ transit_text c (marks_after c es) (rests_after c es) → IsTransitText c es text
placed_travel c es text case leads is = (leads, λ rests. let held = leads.rested rests in placed c (state_after c es).held case held.optimal.stable.kept.feasible held, is)
