-- The procedure of a case when it has ended.
use Rattle.std.proofs.Common.{◌≡◌, ◌∙◌, ◌++◌, ℕ, true, List, Option, option_map, ap, map}
use Rattle.rm_sets.specs.Sets.{below}
use Rattle.rm_market.specs.Board.{hospital_of}
use Rattle.rm_market.specs.Market.{wishes_of, places_of}
use Rattle.rm_market.specs.Stable.{at}
use Rattle.rm_market.specs.declared.Turn.{Turn}
use Rattle.rm_market_laws.proofs.Market.{runs_well_in}
use Rattle.rm_market_laws.proofs.Wishes.{listed_long}
use Rattle.rm_flexible_laws.proofs.Procedure.{chooses_best}
use Rattle.rm_policy.specs.Top.{is_flexible}
use Rattle.rm_case.specs.Case.{CaseData, IsCase, market, regions}
use Rattle.rm_case.specs.Solving.{IsSolved}
use Rattle.rm_case.proofs.Solved.{own-solved}
use Rattle.rm_replay.specs.Played.{IsPlayedBy, IsPlayedOut, held_after, kept_in}

module _ (c : CaseData) (ok : IsCase c) (order : List ℕ) (turns : List Turn) (places : List (Option ℕ)) (by : IsPlayedBy (kept_in c) (market c).board (wishes_of (market c)) order turns places) where
  pub played_out : IsPlayedOut c order places
  unfolding places_of
  played_out = record {
    more = by.more;
    ended = by.ended;
    placed = by.placed ∙ ap (λ n. map (λ d. option_map (hospital_of (market c).board) (at (wishes_of (market c)) d (held_after c (order ++ by.more)))) (below n)) (listed_long (market c) ok.market);
  }

  pub played_solves : is_flexible c.policy.kind ≡ true → IsSolved c places
  played_solves kind =
      let are = ok.regions kind in
      let best = chooses_best (market c) (regions c) ok.market are.lawful are.compiled in
      own-solved c ok places (held_after c (order ++ by.more), (runs_well_in (market c) ok.market (kept_in c) best).closed (order ++ by.more) by.ended, by.placed)
