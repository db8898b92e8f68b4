-- One region of two hospitals.
use Rattle.std.proofs.Common.{◌≡◌, ℕ, ◌<◌, true, List, length, All, arith}
use Rattle.std.specs.List.{list_any}
use Rattle.rm_market.specs.Board.{Board, contract_count, hospital_of}
use Rattle.rm_market.specs.Flexible.{Region, is_seat_of}
use Rattle.rm_board_laws.proofs.Contracts.{hospital_ranked}
use Rattle.rm_flexible_laws.specs.Region.{no_region, region_at, IsRegion, IsRegions}
use Rattle.rm_flexible.specs.Counts.{has_hospital}
use Rattle.rm_flexible.proofs.Together.{seat_from}

-- each contract is of one of the two hospitals
pub of_region : (b : Board) (r : Region) → length b.ranks ≡ 2 → ((h : ℕ) → h < 2 → has_hospital r h ≡ true) → (x : ℕ) → x < contract_count b → list_any (is_seat_of b x) r.seats ≡ true
of_region b r two all x lt = all (hospital_of b x) (let l = hospital_ranked b x lt in omega (arith, l, two))

pub one_region : (b : Board) (regions : List Region) → length b.ranks ≡ 2 → length regions ≡ 1 → All IsRegion regions → All (λ r. (h : ℕ) → h < 2 → has_hospital r h ≡ true) regions →
    IsRegions (contract_count b) (hospital_of b) regions
one_region b regions two one each all = record {
  each = each;
  one = λ h i j k l p q. let a = p.region in let c = q.region in omega (arith, a, c, one);
  all = λ x lt.
      let s = seat_from (region_at regions 0) (hospital_of b x) (of_region b (region_at regions 0) two (all 0 no_region (omega (arith, one))) x lt) in
      (0, s.0, record { region = omega (arith, one); seat = s.1; hospital = s.2 });
}
