-- The regions of a flexible policy, and the board that they make.
use Rattle.std.specs.Prelude.{◌≡◌, ◌<◌, ℕ, true, List, All, IsTrue, length}
use Rattle.std.specs.List.{list_any}
use Rattle.rm_sets.specs.Sets.{IsSetBelow}
use Rattle.rm_market.specs.Best.{IsBest, values_of}
use Rattle.rm_market.specs.Board.{Board, contract_count, hospital_of}
use Rattle.rm_market.specs.Flexible.{Region, is_seat_of, kept}
use Rattle.rm_flexible_laws.specs.Region.{IsRegions, region_at}
use Rattle.rm_flexible_laws.specs.Compiled.{IsCompiled}
use Rattle.rm_policy.specs.Policy.{PolicyData}
use Rattle.rm_policy.specs.Top.{is_flexible}
use Rattle.rm_roster.specs.Roster.{RosterData}
use Rattle.rm_case.specs.Compiled.{compiled_board, regions_of}

-- the hospital of each contract stands in one of these regions, and the board is theirs
pub record AreRegionsOf (b : Board) (regions : List Region) : Type 0 where
  pub lawful : IsRegions (contract_count b) (hospital_of b) regions
  pub compiled : IsCompiled b regions

-- a flexible policy's regions make its board
abbrev pub RegionsAreCompiled : RosterData → PolicyData → Type 0
RegionsAreCompiled r p = is_flexible p.kind ≡ true → AreRegionsOf (compiled_board r p) (regions_of r p)

-- a set of contracts at a region's hospitals
pub record AreApplicants (b : Board) (r : Region) (X : List ℕ) : Type 0 where
  pub set : IsSetBelow (contract_count b) X
  pub inside : All (λ x. IsTrue (list_any (is_seat_of b x) r.seats)) X

-- what each region keeps of its applicants is the best subset of them
abbrev pub KeepBest : Board → List Region → Type 0
KeepBest b regions =
    (i : ℕ) (X : List ℕ) → i < length regions → AreApplicants b (region_at regions i) X → IsBest (values_of b) X (kept b (region_at regions i) X)
