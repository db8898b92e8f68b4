-- The results, as they are stated.
use Rattle.std.proofs.Common.{ℕ, ◌<◌, List, length, filter}
use Rattle.rm_sets.specs.Sets.{has, IsSet, IsSetBelow}
use Rattle.rm_sets.proofs.Sets.{IsSet-filter, not_both}
use Rattle.rm_sets.proofs.Members.{IsIn-from_filter, IsSetBelow-filter, not_in_from, within_refl}
use Rattle.rm_market.specs.Board.{Board, IsBoard, contract_count, hospital_of}
use Rattle.rm_market.specs.Flexible.{Region, kept, in_region, flexible}
use Rattle.rm_flexible_laws.specs.Region.{region_at, IsRegions}
use Rattle.rm_flexible_laws.proofs.ByCounts.{is_of, IsPickedBy}
use Rattle.rm_flexible_laws.specs.Compiled.{IsCompiled}
use Rattle.rm_flexible_laws.specs.Results.{IsPicked, KeptIsPicked, FlexibleIsPicked, PickedIsOne, KeptIsBest, FlexibleIsBest, BestIsPicked, StableIsCountForm}
use Rattle.rm_flexible_laws.proofs.Pick.{flexible_picked, kept_picked, one_place}
use Rattle.rm_flexible_laws.proofs.Laws.{picked_same}
use Rattle.rm_flexible_laws.proofs.Best.{picked_best}
use Rattle.rm_flexible_laws.proofs.Converse.{best_picked}
use Rattle.rm_flexible_laws.proofs.CountForm.{passed_says, passed_from}
use Rattle.rm_flexible_laws.proofs.Stable.{count_form_from_stable, stable_from_count_form}

-- passed over, by counts and by the test
module _ (b : Board) (regions : List Region) (ok : IsRegions (contract_count b) (hospital_of b) regions) (X S : List ℕ) where
  from_counts : IsSetBelow (contract_count b) X → IsPickedBy (hospital_of b) regions X S → IsPicked b regions X S
  from_counts sX p = record {
    set = p.set;
    within = p.within;
    in_caps = p.caps.in_region;
    in_capacities = p.caps.at_seat;
    passed = λ x i out.
        let q = ok.all x (sX.below x i) in
        passed_from b regions (one_place (contract_count b) (hospital_of b) regions ok) S x q.0 q.1 q.2 (p.passed x q.0 q.1 i (not_in_from x S out) q.2);
  }

  to_counts : IsPicked b regions X S → IsPickedBy (hospital_of b) regions X S
  to_counts p = record {
    set = p.set;
    within = p.within;
    caps = record { in_region = p.in_caps; at_seat = p.in_capacities };
    passed = λ x i j inX out q. passed_says b regions (one_place (contract_count b) (hospital_of b) regions ok) S x i j q (p.passed x inX (λ inS. not_both (has x S) inS out));
  }

module _ (b : Board) (regions : List Region) (ok : IsRegions (contract_count b) (hospital_of b) regions) where
  kept_by_counts : (i : ℕ) (X : List ℕ) → i < length regions → IsSet X → IsPickedBy (hospital_of b) regions (in_region b (region_at regions i) X) (kept b (region_at regions i) (in_region b (region_at regions i) X))
  kept_by_counts i X lt s =
      let p = is_of (hospital_of b) (region_at regions i) in
      kept_picked b regions (contract_count b) ok (filter p X) (IsSet-filter p X s) i lt (λ x h. (IsIn-from_filter p X x h).1)

  pub kept_is_picked : KeptIsPicked b regions
  kept_is_picked i X lt s =
      from_counts b regions ok (in_region b (region_at regions i) X) (kept b (region_at regions i) (in_region b (region_at regions i) X))
      (IsSetBelow-filter (contract_count b) (is_of (hospital_of b) (region_at regions i)) X s) (kept_by_counts i X lt s.ascending)

  pub flexible_is_picked : FlexibleIsPicked b regions
  flexible_is_picked X s = from_counts b regions ok X (flexible b regions X) s (flexible_picked b regions (contract_count b) ok X s.ascending)

  pub picked_is_one : PickedIsOne b regions
  picked_is_one X S T s p q = picked_same (contract_count b) (hospital_of b) regions ok X X S T s.ascending s (within_refl X) (to_counts b regions ok X S p) (to_counts b regions ok X T q) q.within

  module _ (doctors : ℕ) (board : IsBoard doctors b) (made : IsCompiled b regions) where
    pub kept_is_best : KeptIsBest b regions
    kept_is_best i X lt s =
        let p = is_of (hospital_of b) (region_at regions i) in
        picked_best doctors b regions board ok made (filter p X) _ (IsSetBelow-filter (contract_count b) p X s) (kept_by_counts i X lt s.ascending)

    pub flexible_is_best : FlexibleIsBest b regions
    flexible_is_best X s = picked_best doctors b regions board ok made X _ s (flexible_picked b regions (contract_count b) ok X s.ascending)

    pub best_is_picked : BestIsPicked b regions
    best_is_picked X S s = (
      λ best. from_counts b regions ok X S s (best_picked doctors b regions board ok made X S s best),
      λ p. picked_best doctors b regions board ok made X S s (to_counts b regions ok X S p),
    )

    pub stable_is_count_form : StableIsCountForm b regions
    stable_is_count_form w S long placement h =
        (count_form_from_stable doctors b regions board ok made w S long h, stable_from_count_form doctors b regions board ok made w S long placement h)
