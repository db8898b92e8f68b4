-- Regions in which each hospital stands once, seen from the contracts.
use Rattle.std.proofs.Common.{◌≡◌, ℕ, ◌<◌, List, length, All}
use Rattle.rm_market.specs.Board.{Board, contract_count, hospital_of}
use Rattle.rm_market.specs.Flexible.{Region}
use Rattle.rm_board_laws.proofs.Contracts.{hospital_ranked}
use Rattle.rm_flexible_laws.specs.Region.{IsRegion, IsRegions, IsPlace}

-- where each hospital stands in exactly one region, so does each contract's
pub regions_from_hospitals : (b : Board) (regions : List Region) → All IsRegion regions → ((h i j k l : ℕ) → IsPlace regions h i j → IsPlace regions h k l → i ≡ k) →
    ((h : ℕ) → h < length b.ranks → (i : ℕ) × (j : ℕ) × IsPlace regions h i j) → IsRegions (contract_count b) (hospital_of b) regions
regions_from_hospitals b regions each one all = record { each = each; one = one; all = λ x lt. all (hospital_of b x) (hospital_ranked b x lt) }
