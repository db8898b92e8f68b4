-- Where what regions keep is the best subset, both give the same stable and optimal placements.
use Rattle.std.proofs.Common.{◌↔◌, ℕ, List, length, sym, subst}
use Rattle.rm_sets.specs.Sets.{IsSetBelow, with_one}
use Rattle.rm_sets.proofs.Members.{IsSetBelow-with_one}
use Rattle.rm_market.specs.Board.{Board, IsBoard, contract_count, hospital_of}
use Rattle.rm_market.specs.Best.{IsBest, values_of}
use Rattle.rm_market.specs.Stable.{Wishes, IsStable, IsOptimal, Takes}
use Rattle.rm_market.specs.Flexible.{Region, flexible}
use Rattle.rm_valuation_laws.proofs.Best.{best_unique}
use Rattle.rm_market.specs.Laws.{after}
use Rattle.rm_matching_laws.proofs.EveryChoice.{every_choice}
use Rattle.rm_flexible_laws.specs.Region.{IsRegions}
use Rattle.rm_flexible_laws.specs.Compiled.{IsCompiled}
use Rattle.rm_flexible_laws.specs.Results.{SameOptimal, FlexibleRunsEnd}
use Rattle.rm_flexible_laws.proofs.Laws.{flexible_lawful}
use Rattle.rm_flexible_laws.proofs.Results.{flexible_is_best}

-- two ways to say which subset is taken, that agree
abbrev pub Agree : ℕ → (List ℕ → List ℕ → Type 0) → (List ℕ → List ℕ → Type 0) → Type 0
Agree n one two = (X S : List ℕ) → IsSetBelow n X → one X S ↔ two X S

pub stable_alike : (one two : List ℕ → List ℕ → Type 0) (w : Wishes) → Agree (length w.owners) one two → (S : List ℕ) → IsStable one w S → IsStable two w S
stable_alike one two w agree S s = record {
  placement = s.placement;
  kept = (agree S S s.placement.set).0 s.kept;
  unblocked = λ x lt wanted. (agree (with_one S x) S (IsSetBelow-with_one (length w.owners) S x s.placement.set lt)).0 (s.unblocked x lt wanted);
}

pub optimal_alike : (one two : List ℕ → List ℕ → Type 0) (w : Wishes) → Agree (length w.owners) one two → (S : List ℕ) → IsOptimal one w S → IsOptimal two w S
optimal_alike one two w agree S s = record {
  stable = stable_alike one two w agree S s.stable;
  best_for_all = λ T d t lt. s.best_for_all T d (stable_alike two one w (λ X U sX. ((agree X U sX).1, (agree X U sX).0)) T t) lt;
}

module _ (doctors : ℕ) (b : Board) (regions : List Region) (board : IsBoard doctors b) (ok : IsRegions (contract_count b) (hospital_of b) regions) (made : IsCompiled b regions) where
  takes_best : Agree (contract_count b) (Takes (flexible b regions)) (IsBest (values_of b))
  takes_best X S s = (
    λ e. subst (IsBest (values_of b) X) e (flexible_is_best b regions ok doctors board made X s),
    λ best. best_unique (contract_count b) (values_of b) X (flexible b regions X) S s (flexible_is_best b regions ok doctors board made X s) best,
  )

  pub same_optimal : SameOptimal b regions
  same_optimal w S long =
      let agree = subst (λ n. Agree n (Takes (flexible b regions)) (IsBest (values_of b))) (sym long) takes_best in (
        optimal_alike (Takes (flexible b regions)) (IsBest (values_of b)) w agree S,
        optimal_alike (IsBest (values_of b)) (Takes (flexible b regions)) w (λ X U sX. ((agree X U sX).1, (agree X U sX).0)) S,
      )

  -- a closed run of the flexible procedure ends in the one optimal placement
  pub flexible_runs_end : FlexibleRunsEnd b regions
  flexible_runs_end w wishes ds closed =
      let chosen = flexible b regions in
      let s = (every_choice (contract_count b) chosen w (flexible_lawful (contract_count b) b regions ok) wishes).0.closed ds closed in
      let S = (after chosen w ds).held in
      record {
        optimal = (same_optimal w S wishes.contracts).0 s.optimal;
        only = λ T t. s.only T ((same_optimal w T wishes.contracts).1 t);
      }
