-- A market without a policy: stable, told by hospitals, capacities and rank lists (after Gale and Shapley 1962).
use Rattle.std.specs.Prelude.{◌≡◌, ◌↔◌, ◌⊎◌, ℕ, ◌<◌, ◌≤◌, ◌==◌, List, length, count_by, slice_index, IsTrue}
use Rattle.rm_sets.specs.Sets.{IsIn}
use Rattle.rm_market.specs.Board.{Board, contract_count, hospital_of}
use Rattle.rm_market.specs.Stable.{IsPlacement, wants}
use Rattle.rm_market.specs.Market.{Market, IsStableIn, wishes_of}
use Rattle.rm_board_laws.specs.HospitalBoards.{AreListsBelow, plain_market}

-- how many doctors hospital h holds in S
abbrev pub held : Board → List ℕ → ℕ → ℕ
held b S h = count_by (λ x. hospital_of b x == h) S

-- the doctor and the hospital of contract x, which has so many seats, are a blocking pair of S: he prefers it to his place, and it has a free seat
-- or holds a doctor whom it ranks below him
pub record IsBlockingPair (m : Market) (S : List ℕ) (seats x : ℕ) : Type 0 where
  pub wanted : IsTrue (wants (wishes_of m) S x)
  pub welcome : (held m.board S (hospital_of m.board x) < seats) ⊎ ((y : ℕ) × IsIn y S × (hospital_of m.board y ≡ hospital_of m.board x) × (x < y))

-- no hospital holds more doctors than its capacity, and there is no blocking pair
pub record IsPairwiseStable (m : Market) (capacities S : List ℕ) : Type 0 where
  pub in_capacities : (h : ℕ) → h < length m.board.ranks → held m.board S h ≤ slice_index capacities h
  pub unblocked : (x : ℕ) → x < contract_count m.board → ¬ IsBlockingPair m S (slice_index capacities (hospital_of m.board x)) x

-- in the market without a policy a placement is stable exactly where it is so
abbrev pub PlainStability : Type 0
PlainStability =
    (ranks : List (List ℕ)) (capacities : List ℕ) (lists : List (List ℕ)) (S : List ℕ)
    → AreListsBelow (length lists) ranks → AreListsBelow (length ranks) lists → IsPlacement (wishes_of (plain_market ranks capacities lists)) S
    → IsStableIn (plain_market ranks capacities lists) S ↔ IsPairwiseStable (plain_market ranks capacities lists) capacities S
