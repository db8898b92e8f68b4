-- The numbering of the contracts of rank lists.
use Rattle.std.specs.Prelude.{◌≡◌, ℕ, ◌+◌, ◌-◌, ◌*◌, ◌<◌, ◌≤◌, ◌^◌, nat_lt, Bool, List, [], map, length, take, get_or, slice_range}
use Rattle.rm_sets.specs.Sets.{below}
use Rattle.rm_market.specs.Board.{pairs_of, owners_of_ranks}
use Rattle.rm_board.specs.ByDoctor.{AreByDoctor}
use Rattle.rm_board.specs.declared.hospitals.ByHospital.{ByHospital}
use Rattle.rm_board.specs.declared.hospitals.TheConstants.{RUN}

-- the rank lists: each hospital's are the doctors of its contracts, from its first one up to the next hospital's
abbrev pub rank_lists : ByHospital → List (List ℕ)
rank_lists b = map (λ h. slice_range b.doctors.items (get_or b.starts.items h 0) (get_or b.starts.items (h + 1) 0)) (below (length b.starts.items - 1))

-- of the first contract of each run its hospital, and past the contracts the number of hospitals
pub record AreRuns (ranks : List (List ℕ)) (runs : List ℕ) : Type 0 where
  pub many : length (pairs_of ranks) + RUN ≤ length runs * RUN
  pub first : (k : ℕ) → k < length runs → get_or runs k 0 ≡ get_or (map (λ p. p.1) (pairs_of ranks)) (k * RUN) (length ranks)

-- of each contract its doctor; of each hospital, and after the last one, how many contracts stand before its own; of runs of
-- contracts their first hospitals; and the contracts by doctor
pub record AreContracts (ranks : List (List ℕ)) (by_hospital : ByHospital) (by_doctor : List (List ℕ)) : Type 0 where
  pub few : length (pairs_of ranks) < 4_000_000_000
  pub few_hospitals : length ranks < 2 ^ 32
  pub doctor : by_hospital.doctors.items ≡ owners_of_ranks ranks
  pub as_many : length by_hospital.starts.items ≡ length ranks + 1
  pub start : (h : ℕ) → h ≤ length ranks → get_or by_hospital.starts.items h 0 ≡ length (pairs_of (take h ranks))
  pub runs : AreRuns ranks by_hospital.runs.items
  pub own : AreByDoctor by_hospital.doctors.items by_doctor

-- the contract at a place of a hospital's rank list
abbrev pub number_at : List (List ℕ) → ℕ → ℕ → ℕ
number_at ranks place h = length (pairs_of (take h ranks)) + place

-- a hospital's rank list has that place
abbrev pub ranks_more : List (List ℕ) → ℕ → ℕ → Bool
ranks_more ranks place h = nat_lt place (length (get_or ranks h []))
